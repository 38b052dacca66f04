-- How many elements of a prefix pass a test, one element further.
use Prim.Native.Nat.{ℕ, ◌+◌, ◌≤◌, ◌<◌}
use mathlib.Core.Path.{◌≡◌, refl, ap, ◌∙◌}
use mathlib.Core.Bool.{Bool, true, false}
use mathlib.Core.List.{List, [], ◌∷◌}
use native.Mathlib.Numerals.{add-one}
use native.Mathlib.Omega.{arith}
use lib.ListN.{length, get_or, take}
use lib.Seq.{take-suc}
use Rattle.words.proofs.Appends.{count_of_append}
use Rattle.words.specs.Choice.{when◌then◌else◌}
use Rattle.words.specs.Lists.{bit}
use Rattle.words.specs.Lists.{count_of}

pub bit-one : (t : Bool) → bit t ≤ 1
bit-one true = omega arith
bit-one false = omega arith

pub count-take : {A : Type 0} (f : A → Bool) (xs : List A) (p : ℕ) (d : A) → p < length xs
    → count_of f (take (p + 1) xs) ≡ count_of f (take p xs) + bit (f (get_or xs p d))
count-take {A} f xs p d h =
    ap (λ (k : ℕ). count_of f (take k xs)) (add-one p)
    ∙ ap (λ (l : List A). count_of f l) (take-suc xs p d h)
    ∙ count_of_append f (take p xs) (get_or xs p d ∷ [])
    ∙ ap (λ (k : ℕ). count_of f (take p xs) + k) (one (f (get_or xs p d)))
  where
    one : (t : Bool) → (when t then 1 else 0) ≡ bit t
    one true = refl
    one false = refl
