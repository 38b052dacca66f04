-- Laws of a part of a list: its length, and a part of a part.
use Prim.Native.Nat.{ℕ, zero, suc, ◌+◌, ◌-◌, ◌≤◌}
use mathlib.Core.Path.{◌≡◌, ap, ◌∙◌}
use mathlib.Core.List.{List, [], ◌∷◌}
use native.Mathlib.Nat.{zero-add, suc-add}
use native.Mathlib.Omega.{arith}
use lib.ListN.{length, take, drop, length-drop}
use lib.Seq.{length-take-le, take-nil, take-take, drop-drop}
use Rattle.words.specs.Sections.{part}

pub length_part : (b : List ℕ) (o m : ℕ) → o + m ≤ length b → length (part b o m) ≡ m
length_part b o m h = length-take-le m (drop o b) (rw length-drop (omega arith))

pub drop-take : {A : Type 0} (k n : ℕ) (l : List A) → drop k (take (k + n) l) ≡ take n (drop k l)
drop-take zero n l = rw zero-add
drop-take (suc k) n [] = rw (suc-add, take-nil)
drop-take (suc k) n (x ∷ l) = rw suc-add (drop-take k n l)

pub part-part : (b : List ℕ) (o m i k : ℕ) → i + k ≤ m → part (part b o m) i k ≡ part b (o + i) k
part-part b o m i k h =
    let split : m ≡ i + (m - i) = omega arith in
    ap (λ (n : ℕ). take k (drop i (take n (drop o b)))) split
    ∙ ap (λ (l : List ℕ). take k l) (drop-take i (m - i) (drop o b))
    ∙ take-take k (m - i) (drop i (drop o b)) (omega arith)
    ∙ ap (λ (l : List ℕ). take k l) (drop-drop i o b)
