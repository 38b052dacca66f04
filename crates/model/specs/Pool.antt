-- The pool: N blocks, one after the other.
use Rattle.std.specs.Prelude.{ℕ, ◌+◌, ◌*◌, List, ◌++◌, take, drop}
use Rattle.words.specs.Blocks.{block_size}
use Rattle.words.specs.Sections.{part}

-- "The pool has 512N bytes"
abbrev pub pool_size : ℕ → ℕ
pool_size n = n * block_size

abbrev pub block_at : List ℕ → ℕ → List ℕ
block_at pool p = part pool (p * block_size) block_size

-- "its pool bytes are the change's"
abbrev pub with_block : List ℕ → ℕ → List ℕ → List ℕ
with_block pool p c = take (p * block_size) pool ++ c ++ drop (p * block_size + block_size) pool
