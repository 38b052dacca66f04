-- Laws of ranges of numbers and of sums over lists.
use Prim.Native.Nat.{ℕ, zero, suc, ◌+◌, ◌≤◌, ◌<◌}
use mathlib.Core.Path.{◌≡◌, refl, ap, ◌∙◌}
use mathlib.Core.Logic.{◌⊎◌, inl, inr}
use mathlib.Core.List.{List, [], ◌∷◌, ◌++◌, map}
use mathlib.Core.Bool.{Bool, true, false}
use native.Mathlib.Nat.{not-suc-le-zero, le_of_suc-le-suc, zero-add, add-zero, add-suc, suc-add}
use native.Mathlib.Omega.{arith}
use lib.Dec.{ltb}
use lib.ListN.{length, get_or, take}
use borrow.Author.Tests.{ltb-true, ltb-false}
use Rattle.words.specs.Lists.{up_from, sum}
use Rattle.words.specs.Sections.{tab}

-- a place lies before another or not
pub below_or_not : (i n : ℕ) → (i < n) ⊎ (n ≤ i)
below_or_not i n = go (ltb i n) refl
  where
    go : (t : Bool) → ltb i n ≡ t → (i < n) ⊎ (n ≤ i)
    go true e = inl (ltb-true i n e)
    go false e = inr (ltb-false i n e)

pub length-up_from : (i m : ℕ) → length (up_from i m) ≡ m
length-up_from i zero = refl
length-up_from i (suc m) = ap suc (length-up_from (suc i) m)

pub get_or-up_from : (i m k : ℕ) → k < m → get_or (up_from i m) k 0 ≡ i + k
get_or-up_from i zero k h = absurd (not-suc-le-zero h)
get_or-up_from i (suc m) zero h = omega arith
get_or-up_from i (suc m) (suc k) h = get_or-up_from (suc i) m k (le_of_suc-le-suc h) ∙ omega arith

-- one more number at the end
pub up_from-snoc : (i m : ℕ) → up_from i (suc m) ≡ up_from i m ++ (i + m) ∷ []
up_from-snoc i zero = rw add-zero
up_from-snoc i (suc m) = rw (add-suc i m, ← suc-add i m) (ap (λ (r : List ℕ). i ∷ r) (up_from-snoc (suc i) m))

-- two ranges, one after the other
pub up_from-add : (i m n : ℕ) → up_from i (m + n) ≡ up_from i m ++ up_from (i + m) n
up_from-add i zero n = rw (zero-add n, add-zero i)
up_from-add i (suc m) n =
    rw (suc-add m n) (ap (λ (r : List ℕ). i ∷ r) (up_from-add (suc i) m n) ∙ rw (suc-add i m, ← add-suc i m))

module _ {A : Type 0} where
  pub map-tab : {B : Type 0} (f : A → B) (n : ℕ) (g : ℕ → A) → map f (tab n g) ≡ tab n (λ k. f (g k))
  map-tab {B} f zero g = refl
  map-tab {B} f (suc n) g = ap (λ (r : List B). f (g zero) ∷ r) (map-tab f n (λ k. g (suc k)))

  -- the sum up to a place, one element further
  pub sum-take : (f : A → ℕ) (xs : List A) (p : ℕ) (d : A) → p < length xs
      → sum (map f (take (suc p) xs)) ≡ sum (map f (take p xs)) + f (get_or xs p d)
  sum-take f [] p d h = absurd (not-suc-le-zero h)
  sum-take f (x ∷ xs) zero d h = omega arith
  sum-take f (x ∷ xs) (suc p) d h = let e = sum-take f xs p d (le_of_suc-le-suc h) in omega arith
