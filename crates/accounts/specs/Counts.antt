-- A count for each block of the pool, gathered cell by cell.
use Rattle.std.specs.Prelude.{ℕ, ◌+◌, ◌<◌, ◌≡◌, List, eqb, length, get_or}
use Rattle.words.specs.Lists.{count_of}
use Rattle.book.specs.Book.{Entry, entry_at}
use Rattle.due.specs.Pool.{pool_blocks}

-- a' is a with the block numbers cs counted
pub record Counted (a cs a' : List ℕ) : Type 0 where
  pub long : length a' ≡ length a
  pub at : (p : ℕ) → p < pool_blocks → get_or a' p 0 ≡ get_or a p 0 + count_of (eqb p) cs

-- ---- "each count is the number of map cells naming the block"

abbrev pub count_of_block : List Entry → ℕ → ℕ
count_of_block es p = (entry_at es p).count
