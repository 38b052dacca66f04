-- An option is nothing or one thing.
use mathlib.Core.Path.{◌≡◌}
use mathlib.Core.Option.{none, some}
use native.Mathlib.Omega.{arith}
use Prim.Native.Nat.{ℕ}

module _ {A : Type 0} where
  pub none_not : (a : A) → none ≡ some a → ⊥
  none_not a e = let z : ◌≡◌ {A = ℕ} 0 1 = cc in omega arith

  pub some_same : (a b : A) → some a ≡ some b → a ≡ b
  some_same a b e = cc
