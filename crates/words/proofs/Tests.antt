-- More laws of tests: equality either way round, tests of which neither holds, tests that can't fail.
use Prim.Native.Nat.{ℕ}
use mathlib.Core.Path.{◌≡◌, refl, sym}
use mathlib.Core.Bool.{Bool, true, false, ◌||◌}
use mathlib.Core.List.{List, [], ◌∷◌}
use lib.Dec.{eqb}
use borrow.Author.Tests.{eqb-true, eq-eqb}
use Rattle.words.proofs.ChoiceLaws.{same_test}
use Rattle.words.specs.Lists.{some_of}

pub eqb_swap : (a b : ℕ) → eqb a b ≡ eqb b a
eqb_swap a b = same_test (eqb a b) (eqb b a) (λ e. eq-eqb b a (sym (eqb-true a b e))) (λ e. eq-eqb a b (sym (eqb-true b a e)))

pub or_neither : (a b : Bool) → (a || b) ≡ false → (a ≡ false) × (b ≡ false)
or_neither true b e = (e, let z = e in cc)
or_neither false b e = (refl, e)

-- what can't be false is true, and the other way round
pub surely : (a : Bool) → (a ≡ false → ⊥) → a ≡ true
surely true h = refl
surely false h = absurd (h refl)

pub surely_not : (a : Bool) → (a ≡ true → ⊥) → a ≡ false
surely_not true h = absurd (h refl)
surely_not false h = refl

-- where no element passes either of two tests
pub some_neither : {A : Type 0} (f g : A → Bool) (xs : List A) → some_of (λ x. f x || g x) xs ≡ false
    → (some_of f xs ≡ false) × (some_of g xs ≡ false)
some_neither f g [] e = (refl, refl)
some_neither f g (x ∷ xs) e =
    let a = or_neither (f x || g x) (some_of (λ y. f y || g y) xs) e in
    let b = or_neither (f x) (g x) a.0 in
    let ih = some_neither f g xs a.1 in
    (rw b.0 ih.0, rw b.1 ih.1)
