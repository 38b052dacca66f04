-- A part of a list that was lent and came back: the list with the part stored, and the order of stores that lie apart.
use Prim.Native.Nat.{ℕ, suc, ◌+◌, ◌-◌, ◌≤◌, ◌<◌}
use mathlib.Core.Path.{◌≡◌, refl, sym, ap, ◌∙◌}
use mathlib.Core.List.{List, [], ◌∷◌, ◌++◌, append_assoc}
use native.Mathlib.Omega.{arith}
use lib.ListN.{length, set, take, drop, take-append-drop}
use lib.Seq.{sets, sets-eq, set_comm, drop-drop}
use Rattle.words.proofs.LayingLaws.{sets_append}

module _ (l : List ℕ) (from end : ℕ) (order : from ≤ end) (inside : end ≤ length l) where
  -- as it was
  pub part_same : (ys : List ℕ) → ys ≡ take (end - from) (drop from l) → take from l ++ (ys ++ drop (end - from) (drop from l)) ≡ l
  part_same ys e = rw (e, take-append-drop (end - from) (drop from l), take-append-drop from l)

  -- with other elements in it
  pub part-stored : (ys : List ℕ) → from + length ys ≡ end → take from l ++ (ys ++ drop (end - from) (drop from l)) ≡ sets l from ys
  part-stored ys e =
      let k : from + (end - from) ≡ from + length ys = omega arith in
      sym (sets-eq ys l from (omega arith)
      ∙ append_assoc (take from l) ys (drop (from + length ys) l)
      ∙ ap (λ (r : List ℕ). take from l ++ (ys ++ r)) (sym (drop-drop (end - from) from l ∙ ap (λ (n : ℕ). drop n l) k)))

set_before : (ys l : List ℕ) (i j x : ℕ) → i < j → set (sets l j ys) i x ≡ sets (set l i x) j ys
set_before [] l i j x h = refl
set_before (y ∷ ys) l i j x h =
    set_before ys (set l j y) i (suc j) x (omega arith)
    ∙ ap (λ (r : List ℕ). sets r (suc j) ys) (set_comm l j i y x (λ e. omega arith))

sets-before : (xs ys l : List ℕ) (i j : ℕ) → i + length xs ≤ j → sets (sets l j ys) i xs ≡ sets (sets l i xs) j ys
sets-before [] ys l i j h = refl
sets-before (x ∷ xs) ys l i j h =
    ap (λ (r : List ℕ). sets r (suc i) xs) (set_before ys l i j x (omega arith)) ∙ sets-before xs ys (set l i x) (suc i) j (omega arith)

-- a store right before another one
pub sets-joined-before : (xs ys l : List ℕ) (i j : ℕ) → j ≡ i + length xs → sets (sets l j ys) i xs ≡ sets l i (xs ++ ys)
sets-joined-before xs ys l i j e =
    sets-before xs ys l i j (omega arith) ∙ ap (λ (n : ℕ). sets (sets l i xs) n ys) e ∙ sets_append xs ys l i
