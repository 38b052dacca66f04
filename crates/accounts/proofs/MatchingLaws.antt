-- Laws of specs/Matching.antt.
-- Two rows of numbers agree, number by number: the test, and its laws for a loop that gathers it.
use Prim.Native.Nat.{ℕ, ◌+◌, ◌<◌}
use mathlib.Core.Path.{◌≡◌, sym, ap}
use mathlib.Core.Bool.{Bool, true, ◌&&◌}
use native.Mathlib.Omega.{arith}
use lib.Dec.{eqb}
use Rattle.words.specs.Lists.{each}
use Rattle.words.proofs.Each.{each_none, each-grow, each_same}
use Rattle.accounts.specs.Matching.{matching}

module _ (f g : ℕ → ℕ) where
  pub matching-none : true ≡ matching f g 0
  unfolding matching
  matching-none = sym (each_none (λ k. eqb (f k) (g k)) 0 0 (omega arith))

  pub matching-grow : (n : ℕ) {good : Bool} {a b : ℕ} → good ≡ matching f g n → a ≡ f n → b ≡ g n → (good && eqb a b) ≡ matching f g (n + 1)
  unfolding matching
  matching-grow n e h k = each-grow (λ k. eqb (f k) (g k)) 0 n (omega arith) e (rw (h, k))

  -- with another row that is the same below n
  pub matching-same : (h : ℕ → ℕ) (n : ℕ) → ((k : ℕ) → k < n → g k ≡ h k) → matching f g n ≡ each (λ k. eqb (f k) (h k)) 0 n
  unfolding matching
  matching-same h n e = each_same (λ k. eqb (f k) (g k)) (λ k. eqb (f k) (h k)) 0 n (λ k _ b. ap (eqb (f k)) (e k b))
