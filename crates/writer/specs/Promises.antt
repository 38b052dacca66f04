-- What the writer leaves, for all inputs: its number, the list's length, and the output.
use Rattle.std.specs.Prelude.{ℕ, ◌≤◌, ◌≡◌, List, length, Result, IfOk}
use Rattle.words.specs.Lent.{Lent}
use Rattle.words.specs.Refusals.{refusal_number}
use Rattle.words.specs.declared.refusals.Refusal.{Refusal}
use Rattle.runs.specs.Writer.{write_number, output_after, list_of}

-- r is how many bytes the list has, or the refusal
pub record Writes (L : ℕ) (marks prints image out : Lent (List ℕ)) (r : Result ℕ Refusal) : Type 0 where
  pub number : refusal_number r ≡ write_number L marks.entry.now prints.entry.now image.entry.now out.entry.now
  pub length : IfOk r (λ n. (n ≡ length (list_of marks prints image)) × (n ≤ length out.entry.now))
  pub output : out.exit.now ≡ output_after (refusal_number r) (list_of marks prints image) out.entry.now
