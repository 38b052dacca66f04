-- What a list's result tells is what `Played` has as a number and a length.
use Prim.Native.Nat.{ℕ}
use mathlib.Core.Path.{◌≡◌, refl, sym, ap}
use mathlib.Core.List.{List}
use native.Mathlib.Omega.{arith}
use lib.ListN.{length}
use Rattle.std.specs.Prelude.{Result, Ok, Err}
use Rattle.words.specs.Lent.{Lent}
use Rattle.words.specs.Outcome.{Outcome, refused, accepted, and_then}
use Rattle.words.specs.Refusals.{number, refusal_number, outcome_by}
use Rattle.words.specs.declared.refusals.Refusal.{Refusal}
use Rattle.words.proofs.Accepted.{refused_not, accepted-same}
use Rattle.words.proofs.Refused.{number-not_zero}
use Rattle.model.specs.OnBytes.{number_of, after}
use Rattle.calls.specs.Promises.{Played}
use Rattle.play.specs.Promises.{told_short, length_after, Plays}

module _ {A : Type 0} (f : A → ℕ) where
  told-outcome : (r : Result ℕ Refusal) (o : Outcome A) → refusal_number r ≡ number_of o
      → ((w : ℕ) → length_after w r ≡ after f o w)
      → outcome_by (λ n. n) r ≡ and_then o (λ a. accepted (f a))
  told-outcome (Ok n) (refused k) h w = absurd (let a = w 0 in let b = w 1 in omega arith)
  told-outcome (Ok n) (accepted a) h w = ap accepted (w 0)
  told-outcome (Err e) (refused k) h w = ap refused h
  told-outcome (Err e) (accepted a) h w = absurd (number-not_zero e h)

  told-length : (r : Result ℕ Refusal) (o : Outcome A) (w : ℕ) → outcome_by (λ n. n) r ≡ and_then o (λ a. accepted (f a))
      → length_after w r ≡ after f o w
  told-length (Ok n) (refused k) w h = absurd (refused_not k n (sym h))
  told-length (Ok n) (accepted a) w h = accepted-same n (f a) h
  told-length (Err e) (refused k) w h = refl
  told-length (Err e) (accepted a) w h = absurd (refused_not (number e) (f a) h)

module _ (book pool spare calls out : Lent (List ℕ)) (r : Result ℕ Refusal) where
  -- as C gets it, where `written` is w before
  abbrev AsNumber : ℕ → Type 0
  AsNumber w =
      Played (length spare.entry.now) book.entry.now pool.entry.now calls.entry.now out.entry.now w (refusal_number r) book.exit.now
      pool.exit.now out.exit.now (length_after w r)

  pub played_plays : ((w : ℕ) → AsNumber w) → told_short r → Plays book pool spare calls out r
  played_plays p s = record {
    number = (p 0).number;
    end = (p 0).end;
    answers = (p 0).answers;
    written = told-outcome _ r _ (p 0).number (λ w. (p w).written);
    short = s;
  }

  pub plays_played : (w : ℕ) → Plays book pool spare calls out r → AsNumber w
  plays_played w p = record { number = p.number; end = p.end; answers = p.answers; written = told-length _ r _ w p.written }
