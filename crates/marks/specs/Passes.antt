-- What a pass over the marks does at each of them, and what the functions that pass them answer.
use Rattle.std.specs.Prelude.{ℕ, ◌+◌, ◌≡◌, List, eqb, length}
use Rattle.words.specs.Lists.{bit}
use Rattle.words.specs.Sections.{flat}
use Rattle.words.specs.Laying.{Stored}
use Rattle.runs.specs.Writer.{marked_pairs, marked_from, pair_bytes}
use Rattle.runs.specs.Passing.{ended_run, row_after}
use Rattle.marks.specs.declared.Tally.{Tally}
use Rattle.marks.specs.declared.Progress.{Progress}

-- the bytes of the pair of the run that ends before LBN i, and of all pairs of the list
unfoldable pub pair_of : ℕ → ℕ → ℕ → List ℕ
pair_of i k m = flat pair_bytes (ended_run i k m)

unfoldable pub pairs_of : List ℕ → List ℕ
pairs_of marks = flat pair_bytes (marked_pairs marks)

-- a count with one mark more
unfoldable pub counted : Tally → ℕ → Tally
counted t m = record {
  runs = t.runs + length (ended_run 0 t.row m);
  changes = t.changes + bit (eqb m 1);
  row = row_after t.row m;
}

-- E and n
pub record Counted (marks : List ℕ) (t : Tally) : Type 0 where
  pub runs : t.runs ≡ length (marked_pairs marks)
  pub changes : t.changes ≡ length (marked_from 0 marks)

-- the mark m of LBN i was passed
pub record Passed (out : List ℕ) (p : Progress) (i m : ℕ) (out' : List ℕ) (r : Progress) : Type 0 where
  pub pair : Stored out p.at (pair_of i p.row m) out' r.at
  pub row : r.row ≡ row_after p.row m
