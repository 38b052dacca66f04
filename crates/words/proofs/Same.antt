-- Laws of `same`, over whole lists and from a place on.
use Prim.Native.Nat.{ℕ, suc, ◌+◌, ◌≤◌, ◌<◌}
use mathlib.Core.Path.{◌≡◌, refl, ap, ap₂}
use mathlib.Core.Bool.{Bool, true, false, ◌&&◌}
use mathlib.Core.List.{List, [], ◌∷◌}
use native.Mathlib.Numerals.{add-one}
use lib.Dec.{eqb}
use lib.ListN.{length, get_or, drop, drop_of_length-le}
use lib.Seq.{drop-cons}
use borrow.Author.Tests.{eq-eqb, eqb-true}
use Rattle.words.proofs.ChoiceLaws.{and_true}
use Rattle.words.specs.Lists.{same}

pub same_self : (a : List ℕ) → same a a ≡ true
same_self [] = refl
same_self (x ∷ a) = rw (eq-eqb x x refl) (same_self a)

pub same_equal : (a b : List ℕ) → same a b ≡ true → a ≡ b
same_equal [] [] e = refl
same_equal [] (y ∷ b) e = cc
same_equal (x ∷ a) [] e = cc
same_equal (x ∷ a) (y ∷ b) e =
    let t = and_true (eqb x y) (same a b) e in
    ap₂ (λ (u : ℕ) (v : List ℕ). u ∷ v) (eqb-true x y t.0) (same_equal a b t.1)

-- lists of other lengths are not the same
pub same-long : (a b : List ℕ) → (length a ≡ length b → ⊥) → same a b ≡ false
same-long [] [] h = absurd (h refl)
same-long [] (y ∷ b) h = refl
same-long (x ∷ a) [] h = refl
same-long (x ∷ a) (y ∷ b) h = rw (same-long a b (λ e. h (ap suc e))) (last (eqb x y))
  where
    last : (t : Bool) → (t && false) ≡ false
    last true = refl
    last false = refl

-- a comparison that has passed the places below i, all alike where g is true: one turn more, and its end
module _ (a b : List ℕ) (i : ℕ) (g : Bool) where
  pub same_turn : i < length a → i < length b
      → (g && same (drop i a) (drop i b)) ≡ ((g && eqb (get_or a i 0) (get_or b i 0)) && same (drop (i + 1) a) (drop (i + 1) b))
  same_turn h k = rw (add-one i, drop-cons a i 0 h, drop-cons b i 0 k) (go g)
    where
      go : (g : Bool) → (g && (eqb (get_or a i 0) (get_or b i 0) && same (drop (suc i) a) (drop (suc i) b)))
          ≡ ((g && eqb (get_or a i 0) (get_or b i 0)) && same (drop (suc i) a) (drop (suc i) b))
      go true = refl
      go false = refl

  pub same_end : length a ≤ i → length b ≤ i → (g && same (drop i a) (drop i b)) ≡ g
  same_end h k = rw (drop_of_length-le a {i = i} h, drop_of_length-le b {i = i} k) (go g)
    where
      go : (g : Bool) → (g && true) ≡ g
      go true = refl
      go false = refl
