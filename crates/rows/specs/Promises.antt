-- What telling a volume's map or the pool's blocks leaves, for all inputs, by `model`'s definitions on bytes.
use Rattle.std.specs.Prelude.{ℕ, List, length}
use Rattle.words.specs.Lent.{Lent}
use Rattle.model.specs.Views.{cells_bytes, blocks_bytes}
use Rattle.model.specs.Written.{Written}

-- r is what the call returns
abbrev pub CellsTold : Lent (List ℕ) → ℕ → Lent (List ℕ) → ℕ → Type 0
CellsTold b v out r =
    Written (cells_bytes b.entry.now v (length out.entry.now)) out.entry.now r out.exit.now

abbrev pub BlocksTold : Lent (List ℕ) → Lent (List ℕ) → ℕ → Type 0
BlocksTold b out r =
    Written (blocks_bytes b.entry.now (length out.entry.now)) out.entry.now r out.exit.now
