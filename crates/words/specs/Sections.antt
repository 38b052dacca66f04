-- Lists made of sections, and sections made of elements of one size. No layout is known here: the size of an element and its encoder are
-- parameters.
use Rattle.std.specs.Prelude.{List, [], ◌∷◌, map, ℕ, zero, suc, take, drop}
use Rattle.words.specs.Lists.{joined}

-- ---- elements of one size

module _ {A : Type 0} where
  abbrev pub flat : (A → List ℕ) → List A → List ℕ
  flat enc xs = joined (map enc xs)

-- ---- a list cut or filled up to n elements

module _ {A : Type 0} where
  abbrev pub fit : A → ℕ → List A → List A
  fit d zero l = []
  fit d (suc n) [] = d ∷ fit d n []
  fit d (suc n) (x ∷ l) = x ∷ fit d n l

  -- a list by its elements
  abbrev pub tab : ℕ → (ℕ → A) → List A
  tab zero f = []
  tab (suc n) f = f zero ∷ tab n (λ k. f (suc k))

-- ---- m elements from o

abbrev pub part : List ℕ → ℕ → ℕ → List ℕ
part b o m = take m (drop o b)
