-- Laws of specs/Numbers.antt.
-- Numbers of two bytes, little-endian (document 01, head).
use Prim.Native.Nat.{ℕ, ◌+◌, ◌*◌, ◌/◌, ◌%◌}
use mathlib.Core.Path.{◌≡◌}
use native.Mathlib.Nat.{mod-add-div'}

pub two_back : (v : ℕ) → v % 256 + v / 256 * 256 ≡ v
two_back v = mod-add-div' v 256
