-- "The reader recovers exactly these": it takes the list that the writer writes, and finds the marked blocks in it.
use Rattle.std.specs.Prelude.{ℕ, ◌≡◌, List}
use Rattle.runs.specs.Changes.{changes, list_number}
use Rattle.runs.specs.Writer.{marked_changes}

-- the reader doesn't refuse the list, and its changes are the marked blocks, in order
pub record Recovered (L : ℕ) (marks prints image list : List ℕ) : Type 0 where
  pub taken : list_number L list ≡ 0
  pub found : changes list ≡ marked_changes marks prints image
