-- Laws of the words over lists, where one list stands behind another.
use Prim.Native.Nat.{ℕ, suc, ◌+◌, ◌*◌, ◌<◌}
use mathlib.Core.Path.{◌≡◌, refl, ap, ◌∙◌}
use mathlib.Core.Bool.{Bool, true, false, ◌&&◌, ◌||◌}
use mathlib.Core.List.{List, [], ◌∷◌, ◌++◌, map, append_assoc}
use native.Mathlib.Nat.{suc-mul}
use native.Mathlib.Omega.{arith}
use lib.ListN.{length, get_or, length-append}
use Rattle.words.specs.Choice.{when◌then◌else◌}
use Rattle.words.proofs.ChoiceLaws.{and_assoc, or_assoc}
use Rattle.words.specs.Lists.{all, some_of, those, count_of, last_of, joined, sum}

module _ {A : Type 0} (f : A → Bool) where
  pub all_append : (xs ys : List A) → all f (xs ++ ys) ≡ (all f xs && all f ys)
  all_append [] ys = refl
  all_append (x ∷ xs) ys = rw (all_append xs ys, and_assoc)

  pub some_of_append : (xs ys : List A) → some_of f (xs ++ ys) ≡ (some_of f xs || some_of f ys)
  some_of_append [] ys = refl
  some_of_append (x ∷ xs) ys = rw (some_of_append xs ys) (or_assoc (f x) (some_of f xs) (some_of f ys))

  pub those_append : (xs ys : List A) → those f (xs ++ ys) ≡ those f xs ++ those f ys
  those_append [] ys = refl
  those_append (x ∷ xs) ys = go (f x) (those_append xs ys)
    where
      go : (t : Bool) → those f (xs ++ ys) ≡ those f xs ++ those f ys
          → (when t then x ∷ those f (xs ++ ys) else those f (xs ++ ys)) ≡ (when t then x ∷ those f xs else those f xs) ++ those f ys
      go true ih = rw ih
      go false ih = ih

  pub count_of_append : (xs ys : List A) → count_of f (xs ++ ys) ≡ count_of f xs + count_of f ys
  count_of_append [] ys = omega arith
  count_of_append (x ∷ xs) ys = go (f x) (count_of_append xs ys)
    where
      go : (t : Bool) → count_of f (xs ++ ys) ≡ count_of f xs + count_of f ys
          → (when t then suc (count_of f (xs ++ ys)) else count_of f (xs ++ ys))
          ≡ (when t then suc (count_of f xs) else count_of f xs) + count_of f ys
      go true ih = omega arith
      go false ih = ih

module _ {A : Type 0} where
  pub joined_append : (xss yss : List (List A)) → joined (xss ++ yss) ≡ joined xss ++ joined yss
  joined_append [] yss = refl
  joined_append (xs ∷ xss) yss = rw (joined_append xss yss, append_assoc)

  -- rows of l elements each
  pub length-rows : (l : ℕ) (xss : List (List A)) → ((i : ℕ) → i < length xss → length (get_or xss i []) ≡ l)
      → length (joined xss) ≡ length xss * l
  length-rows l [] h = omega arith
  length-rows l (xs ∷ xss) h =
      length-append xs (joined xss)
      ∙ omega (arith, h 0 (omega arith), length-rows l xss (λ i k. h (suc i) (omega arith)), suc-mul (length xss) l)

  pub last_of_append : (d : A) (xs ys : List A) → last_of d (xs ++ ys) ≡ last_of (last_of d xs) ys
  last_of_append d [] ys = refl
  last_of_append d (x ∷ xs) ys = last_of_append x xs ys

  pub map_append : {B : Type 0} (f : A → B) (xs ys : List A) → map f (xs ++ ys) ≡ map f xs ++ map f ys
  map_append f [] ys = refl
  map_append f (x ∷ xs) ys = ap (λ (r : List _). f x ∷ r) (map_append f xs ys)

pub sum_append : (xs ys : List ℕ) → sum (xs ++ ys) ≡ sum xs + sum ys
sum_append [] ys = omega arith
sum_append (x ∷ xs) ys = let ih = sum_append xs ys in omega arith
