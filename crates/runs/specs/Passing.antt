-- The pairs of the list from left to right, one mark after the other, as the code makes them. They are those of specs/Writer.antt by
-- proofs/PassingLaws.antt.
use Rattle.std.specs.Prelude.{ℕ, suc, ◌+◌, Bool, ◌&&◌, List, [], ◌∷◌, ◌++◌, ltb, eqb}
use Rattle.words.specs.Choice.{when◌then◌else◌}
use Rattle.words.specs.Lists.{bit}
use Rattle.runs.specs.Changes.{Pair, max_run}
use Rattle.runs.specs.Writer.{run_before}

-- whether a block with the mark m goes on with the open run, which has k blocks
unfoldable pub goes_on : ℕ → ℕ → Bool
goes_on k m = eqb m 1 && ltb k max_run

-- the run that ends before LBN i, where the open run has the k blocks before i and i's mark is m: none if i goes on with it
unfoldable pub ended_run : ℕ → ℕ → ℕ → List Pair
ended_run i k m = when goes_on k m then [] else run_before i k

-- how many blocks the open run has then: with i, or if it ended, i alone if that is marked
unfoldable pub row_after : ℕ → ℕ → ℕ
row_after k m = when goes_on k m then k + 1 else bit (eqb m 1)

-- all pairs, where the marks are those from LBN i on and the open run has the k blocks before i
abbrev pub pairs_from : ℕ → ℕ → List ℕ → List Pair
pairs_from i k [] = run_before i k
pairs_from i k (m ∷ ms) = ended_run i k m ++ pairs_from (suc i) (row_after k m) ms
