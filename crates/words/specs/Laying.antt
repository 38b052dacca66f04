-- What the store of a section leaves.
use Rattle.std.specs.Prelude.{ℕ, ◌+◌, ◌≡◌, List, length}
use Rattle.std.proofs.lemmas.List.Edits.{sets}

-- a section was stored at `at`: the list after it, and the place past it
pub record Stored (out : List ℕ) (at : ℕ) (section out' : List ℕ) (at' : ℕ) : Type 0 where
  pub list : out' ≡ sets out at section
  pub place : at' ≡ at + length section
