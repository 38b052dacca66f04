-- Words over lists that the box's definitions are written with.
use Rattle.std.specs.Prelude.{ℕ, zero, suc, ◌+◌, ◌-◌, Bool, true, false, not, ◌&&◌, ◌||◌, List, [], ◌∷◌, ◌++◌, eqb}
use Rattle.std.proofs.Math.Option.{Option, none, some}
use Rattle.words.specs.Choice.{when◌then◌else◌}

module _ {ℓ} {A : Type ℓ} where
  -- the test holds for every element; for some element
  abbrev pub all : (A → Bool) → List A → Bool
  all f [] = true
  all f (x ∷ xs) = f x && all f xs

  abbrev pub some_of : (A → Bool) → List A → Bool
  some_of f [] = false
  some_of f (x ∷ xs) = f x || some_of f xs

  -- the elements for which the test holds, in order; how many they are
  abbrev pub those : (A → Bool) → List A → List A
  those f [] = []
  those f (x ∷ xs) = when f x then x ∷ those f xs else those f xs

  abbrev pub count_of : (A → Bool) → List A → ℕ
  count_of f [] = 0
  count_of f (x ∷ xs) = when f x then suc (count_of f xs) else count_of f xs

  -- the place of the first element for which the test holds, where the list's own first place is i
  abbrev pub place_from : ℕ → (A → Bool) → List A → Option ℕ
  place_from i f [] = none
  place_from i f (x ∷ xs) = when f x then some i else place_from (suc i) f xs

  abbrev pub first_that : (A → Bool) → List A → Option A
  first_that f [] = none
  first_that f (x ∷ xs) = when f x then some x else first_that f xs

  -- the last element, or d where there is none
  abbrev pub last_of : A → List A → A
  last_of d [] = d
  last_of d (x ∷ xs) = last_of x xs

  abbrev pub or_else : Option A → Option A → Option A
  or_else (some a) o = some a
  or_else none o = o

  abbrev pub joined : List (List A) → List A
  joined [] = []
  joined (x ∷ xs) = x ++ joined xs

-- the same numbers in the same order
abbrev pub same : List ℕ → List ℕ → Bool
same [] [] = true
same [] (y ∷ ys) = false
same (x ∷ xs) [] = false
same (x ∷ xs) (y ∷ ys) = eqb x y && same xs ys

-- no two of the lists are the same
abbrev pub differ : List (List ℕ) → Bool
differ [] = true
differ (x ∷ xs) = all (λ y. not (same x y)) xs && differ xs

-- m numbers from i up: i, i + 1, ..
abbrev pub up_from : ℕ → ℕ → List ℕ
up_from i zero = []
up_from i (suc m) = i ∷ up_from (suc i) m

abbrev pub sum : List ℕ → ℕ
sum [] = 0
sum (x ∷ xs) = x + sum xs

abbrev pub all_zero : List ℕ → Bool
all_zero b = all (λ x. eqb x 0) b

-- the test holds at i, i + 1, .. up to n, which is not among them
unfoldable pub each : (ℕ → Bool) → ℕ → ℕ → Bool
each f i n = all f (up_from i (n - i))

-- a test as a number
abbrev pub bit : Bool → ℕ
bit true = 1
bit false = 0
