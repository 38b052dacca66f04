-- What the check of a list and its helpers answer.
use Rattle.std.specs.Prelude.{ℕ, List, eqb, Option, Some, None}
use Rattle.words.specs.Choice.{when◌then◌else◌}
use Rattle.runs.specs.Changes.{pairs, pair_count, change_count, pairs_fit, list_number}
use Rattle.pairs.specs.declared.Shape.{Shape}

-- E and n
unfoldable pub shape_of : List ℕ → Shape
shape_of b = record { pairs = pair_count b; changes = change_count b }

-- what the pairs of a list come to
unfoldable pub counted_of : ℕ → List ℕ → Option ℕ
counted_of L b = when pairs_fit L 0 (pairs b) then Some (change_count b) else None

unfoldable pub checked_of : ℕ → List ℕ → Option Shape
checked_of L b = when eqb (list_number L b) 0 then Some (shape_of b) else None
