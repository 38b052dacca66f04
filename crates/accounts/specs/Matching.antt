-- Two rows of numbers agree, number by number.
use Rattle.std.specs.Prelude.{ℕ, Bool, eqb}
use Rattle.words.specs.Lists.{each}

-- f and g agree below n
unfoldable pub matching : (ℕ → ℕ) → (ℕ → ℕ) → ℕ → Bool
matching f g n = each (λ k. eqb (f k) (g k)) 0 n
