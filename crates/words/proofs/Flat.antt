-- Laws of `flat` that need no size of an element.
use Prim.Native.Nat.{ℕ}
use mathlib.Core.Path.{◌≡◌, refl, sym, ap, ◌∙◌}
use mathlib.Core.List.{List, [], ◌∷◌, ◌++◌, map, append_assoc}
use Rattle.words.specs.Sections.{flat}

module _ {A : Type 0} (enc : A → List ℕ) where
  pub flat_append : (xs ys : List A) → flat enc (xs ++ ys) ≡ flat enc xs ++ flat enc ys
  flat_append [] ys = refl
  flat_append (x ∷ xs) ys =
      ap (λ (r : List ℕ). enc x ++ r) (flat_append xs ys) ∙ sym (append_assoc (enc x) (flat enc xs) (flat enc ys))

  pub flat_map : {B : Type 0} (f : B → A) (ys : List B) → flat enc (map f ys) ≡ flat (λ (y : B). enc (f y)) ys
  flat_map f [] = refl
  flat_map f (y ∷ ys) = ap (λ (r : List ℕ). enc (f y) ++ r) (flat_map f ys)
