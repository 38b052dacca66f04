-- `heads::head::data_size`: the number of two halves.
use Prim.Native.Nat.{ℕ, ◌+◌, ◌*◌}
use mathlib.Core.Path.{ap₂}
use native.Mathlib.Omega.{arith}
use Rattle.calls.specs.Coding.{data_size}
use Rattle.heads.proofs.head.data_size.Goals as goal

pub returns : goal.returns
unfolding data_size
returns c = (ap₂ (λ (x y : ℕ). x + y * 65536) c.u16_at.ensures c.u16_at-2.ensures, omega arith)
