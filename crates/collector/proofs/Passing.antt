-- A pass over a list that changes each element in turn, and counts those that pass a test.
use Prim.Native.Nat.{ℕ, zero, suc, ◌+◌, ◌≤◌, ◌<◌}
use mathlib.Core.Path.{◌≡◌, refl, ap, ◌∙◌}
use mathlib.Core.Bool.{Bool, true, false}
use mathlib.Core.List.{List, [], ◌∷◌, map}
use native.Mathlib.Omega.{arith}
use lib.ListN.{length, get_or, take, set}
use lib.Seq.{take-suc}
use Rattle.words.proofs.Appends.{count_of_append}
use Rattle.words.specs.Choice.{when◌then◌else◌}
use Rattle.words.specs.Lists.{bit}
use Rattle.words.specs.Lists.{count_of}

pub bit_le : (t : Bool) → bit t ≤ 1
bit_le true = omega arith
bit_le false = omega arith

module _ {A : Type 0} where
  -- the first p elements changed, the others as they were
  abbrev pub map_to : (A → A) → ℕ → List A → List A
  map_to f zero xs = xs
  map_to f (suc p) [] = []
  map_to f (suc p) (x ∷ xs) = f x ∷ map_to f p xs

  module _ (f : A → A) where
    pub map_to_at : (xs : List A) (p : ℕ) (d : A) → get_or (map_to f p xs) p d ≡ get_or xs p d
    map_to_at xs zero d = refl
    map_to_at [] (suc p) d = refl
    map_to_at (x ∷ xs) (suc p) d = map_to_at xs p d

    pub map_to_more : (xs : List A) (p : ℕ) (d : A) → p < length xs → set (map_to f p xs) p (f (get_or (map_to f p xs) p d)) ≡ map_to f (suc p) xs
    map_to_more [] p d h = absurd (omega arith)
    map_to_more (x ∷ xs) zero d h = refl
    map_to_more (x ∷ xs) (suc p) d h = ap (λ (r : List A). f x ∷ r) (map_to_more xs p d (omega arith))

    pub map_to_all : (xs : List A) → map_to f (length xs) xs ≡ map f xs
    map_to_all [] = refl
    map_to_all (x ∷ xs) = ap (λ (r : List A). f x ∷ r) (map_to_all xs)

  module _ (g : A → Bool) where
    one : (x : A) → count_of g (x ∷ []) ≡ bit (g x)
    one x = go (g x)
      where
        go : (t : Bool) → (when t then 1 else 0) ≡ bit t
        go true = refl
        go false = refl

    pub count-more : (xs : List A) (p : ℕ) (d : A) → p < length xs
        → count_of g (take (suc p) xs) ≡ count_of g (take p xs) + bit (g (get_or xs p d))
    count-more xs p d h =
        ap (count_of g) (take-suc xs p d h) ∙ count_of_append g (take p xs) (get_or xs p d ∷ [])
        ∙ ap (λ (k : ℕ). count_of g (take p xs) + k) (one (get_or xs p d))
