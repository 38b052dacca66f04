-- A number for each block of the pool.
use Rattle.std.specs.Prelude.{ℕ, List, get_or}

-- the most blocks that a pool has
abbrev pub pool_blocks : ℕ
pool_blocks = 4096

abbrev pub number_at : List ℕ → ℕ → ℕ
number_at a p = get_or a p 0
