-- What a list of calls leaves and answers, for all inputs, as Rattle gets it: how many bytes its answers have, or the refusal. C gets the same
-- by number and `written` (calls/specs/Lending.antt).
use Rattle.std.specs.Prelude.{ℕ, ◌≤◌, ◌≡◌, List, ◌++◌, length, drop, Result, Ok, Err, IfOk}
use Rattle.words.specs.Lent.{Lent}
use Rattle.words.specs.Outcome.{Outcome, accepted, and_then}
use Rattle.words.specs.Refusals.{refusal_number, outcome_by}
use Rattle.words.specs.declared.refusals.Refusal.{Refusal}
use Rattle.book.specs.Book.{Sizes}
use Rattle.model.specs.OnBytes.{number_of, after}
use Rattle.model.specs.Sides.{Ours}
use Rattle.calls.specs.Asked.{Asked, left_by}
use Rattle.calls.specs.Chain.{PlayedFresh}
use Rattle.calls.specs.Promises.{at, answered, room_of, playable}

-- the length is told in 32 bits
abbrev pub told_short : Result ℕ Refusal → Type 0
told_short r = IfOk r (λ n. n ≤ 4294967295)

-- where a length is put that was w: a refusal leaves it
abbrev pub length_after : ℕ → Result ℕ Refusal → ℕ
length_after w (Ok n) = n
length_after w (Err e) = w

module _ (book pool spare : Lent (List ℕ)) where
  module _ (calls out : Lent (List ℕ)) where
    abbrev asked : Outcome (List Asked)
    asked = playable calls.entry.now (room_of (length out.entry.now))

    abbrev from : Ours
    from = at book.entry.now pool.entry.now

    abbrev told : List Asked → List ℕ
    told xs = answered (length spare.entry.now) from xs

    pub record Plays (r : Result ℕ Refusal) : Type 0 where
      pub number : refusal_number r ≡ number_of asked
      pub end : at book.exit.now pool.exit.now ≡ after (left_by (length spare.entry.now) from) asked from
      pub answers : out.exit.now ≡ after (λ xs. told xs ++ drop (length (told xs)) out.entry.now) asked out.entry.now
      pub written : outcome_by (λ n. n) r ≡ and_then asked (λ xs. accepted (length (told xs)))
      pub short : told_short r

  -- a format, and then a list, wherever the length is put
  pub record PlaysFresh (z : Sizes) (calls out : Lent (List ℕ)) (r : Result ℕ Refusal) : Type 0 where
    pub fresh : (w : ℕ)
        → PlayedFresh book.entry.now pool.entry.now spare.entry.now z calls.entry.now out.entry.now (refusal_number r) book.exit.now pool.exit.now
        out.exit.now (length_after w r)
    pub short : told_short r
