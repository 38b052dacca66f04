-- What a restore leaves, for all inputs, by `model`'s definition on bytes.
use Rattle.std.specs.Prelude.{ℕ, List, length}
use Rattle.words.specs.Lent.{Lent}
use Rattle.model.specs.OnBytes.{restore_bytes}
use Rattle.model.specs.Written.{Written}

-- book, pool, volume, number, first LBN, length, output; r is what the call returns
abbrev pub Restored : Lent (List ℕ) → Lent (List ℕ) → ℕ → ℕ → ℕ → ℕ → Lent (List ℕ) → ℕ → Type 0
Restored b pool v k first many out r =
    Written (restore_bytes b.entry.now pool.entry.now v k first many (length out.entry.now))
    out.entry.now r out.exit.now
