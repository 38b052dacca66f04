-- What the writer promises, as C gets it: a number, and the length where the number is 0.
use Prim.Native.Nat.{ℕ}
use mathlib.Core.Path.{◌≡◌, refl, sym, ◌∙◌}
use mathlib.Core.List.{List}
use native.Mathlib.Omega.{arith}
use borrow.Author.Tests.{ne_eqb}
use Rattle.std.proofs.Common.{Fits, w32}
use Rattle.std.specs.Prelude.{Ok, Err}
use Rattle.words.specs.Lent.{Lent}
use Rattle.words.specs.Refusals.{number}
use Rattle.words.specs.declared.refusals.Refusal.{Refusal}
use Rattle.words.proofs.Refused.{number-not_zero}
use Rattle.runs.specs.Writer.{list_bound, answer_after, Wrote}
use Rattle.runs.proofs.Marked.{input_facts}
use Rattle.runs.proofs.RoomLaws.{list-bounded}
use Rattle.runs.proofs.RoundTripLaws.{input_written}
use Rattle.writer.specs.Promises.{Writes}

-- a refusal leaves the answer; the search for the way out by `Err` has it from the function's `tactic`
pub unanswered : (e : Refusal) (list : List ℕ) (answer : ℕ) → answer_after (number e) list answer ≡ answer
unfolding answer_after
unanswered e list answer = rw (ne_eqb _ _ (number-not_zero e)) refl

module _ (L : ℕ) (marks prints image out : Lent (List ℕ)) where
  pub length-fits : {n : ℕ} → Writes L marks prints image out (Ok n) → Fits w32 n
  unfolding list_bound
  length-fits w =
      let ok = input_written L _ _ _ _ (sym w.number) in
      omega (arith, w.length.0, (input_facts L _ _ _ ok).most, list-bounded L _ _ _ ok)

  module _ (answer : Lent ℕ) where
    pub written : {n : ℕ} → Writes L marks prints image out (Ok n) → answer.exit.now ≡ n → Wrote L marks prints image out answer 0
    unfolding answer_after
    written w a = record { number = w.number; answered = a ∙ w.length.0; output = w.output }

    pub unwritten : {e : Refusal} {r : ℕ} → Writes L marks prints image out (Err e) → r ≡ number e
        → answer.exit.now ≡ answer.entry.now
        → Wrote L marks prints image out answer r
    unwritten {e} w h a = rw h record { number = w.number; answered = a ∙ sym (unanswered e _ _); output = w.output }
