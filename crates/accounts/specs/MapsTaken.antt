-- The maps gone through once: the test of their cells against a table, and a count for each block that they name.
use Rattle.std.specs.Prelude.{ℕ, ◌≤◌, ◌<◌, ◌≡◌, Bool, List, [], get_or, replicate}
use Rattle.words.specs.Lists.{joined}
use Rattle.book.specs.Book.{Book}
use Rattle.accounts.specs.Counts.{Counted}
use Rattle.due.specs.Pool.{pool_blocks}
use Rattle.accounts.specs.TableMaps.{row_matches, table_matches}

-- volume v: its test, and the counters a with its cells counted
pub record RowTaken (x : Book) (cells : List ℕ) (v : ℕ) (a : List ℕ) (good : Bool) (a' : List ℕ) : Type 0 where
  pub test : good ≡ row_matches x.maps x.sizes.l cells v
  pub counts : Counted a (get_or x.maps v []) a'

-- all volumes, counted from zeros
pub record MapsTaken (x : Book) (cells : List ℕ) (good : Bool) (a : List ℕ) : Type 0 where
  pub test : good ≡ table_matches x.maps x.sizes.l cells
  pub counts : Counted (replicate pool_blocks 0) (joined x.maps) a

-- no counter of a pool is above k
abbrev pub AtMost : ℕ → List ℕ → Type 0
AtMost k a = (p : ℕ) → p < pool_blocks → get_or a p 0 ≤ k
