-- Laws of tests, and of a choice by a test (specs/Choice.antt).
use Prim.Native.Nat.{ℕ, max}
use mathlib.Core.Path.{◌≡◌, refl, sym, ◌∙◌}
use mathlib.Core.Logic.{◌⊎◌, inl, inr}
use mathlib.Core.Bool.{Bool, true, false, not, ◌&&◌, ◌||◌}
use native.Mathlib.Omega.{arith}
use lib.Dec.{leb}
use borrow.Author.Tests.{leb-true, leb-false, le-leb, lt-leb, not-true, not-false}

pub and_true : (a b : Bool) → (a && b) ≡ true → (a ≡ true) × (b ≡ true)
and_true true b e = (refl, e)
and_true false b e = (e, let z = e in cc)

pub true_and : (a b : Bool) → a ≡ true → b ≡ true → (a && b) ≡ true
true_and a b e f = cc

pub and_false : (a : Bool) → (a && false) ≡ false
and_false true = refl
and_false false = refl

pub and_assoc : (a b c : Bool) → ((a && b) && c) ≡ (a && (b && c))
and_assoc true b c = refl
and_assoc false b c = refl

pub and-swap : (a b c d : Bool) → ((a && b) && (c && d)) ≡ ((a && c) && (b && d))
and-swap false b c d = refl
and-swap true true c d = refl
and-swap true false true d = refl
and-swap true false false d = refl

pub and_yes : (a : Bool) → (a && true) ≡ a
and_yes true = refl
and_yes false = refl

pub or_cases : (a b : Bool) → (a || b) ≡ true → (a ≡ true) ⊎ (b ≡ true)
or_cases true b e = inl refl
or_cases false b e = inr e

pub or_l : (a b : Bool) → a ≡ true → (a || b) ≡ true
or_l a b e = rw e

pub or_r : (a b : Bool) → b ≡ true → (a || b) ≡ true
or_r true b e = refl
or_r false b e = e

pub or_assoc : (a b c : Bool) → (a || (b || c)) ≡ ((a || b) || c)
or_assoc true b c = refl
or_assoc false b c = refl

pub or_no : (a : Bool) → (a || false) ≡ a
or_no true = refl
or_no false = refl

pub true_or_false : (a : Bool) → (a ≡ true) ⊎ (a ≡ false)
true_or_false true = inl refl
true_or_false false = inr refl

pub not_both : (a : Bool) → a ≡ true → a ≡ false → ⊥
not_both a e f = let z : ◌≡◌ {A = ℕ} 0 1 = cc in omega arith

-- two tests that say the same are equal
pub same_test : (a b : Bool) → (a ≡ true → b ≡ true) → (b ≡ true → a ≡ true) → a ≡ b
same_test true b f g = sym (f refl)
same_test false true f g = g refl
same_test false false f g = refl

-- a branch on `!f(..)`, from what f ensures
pub failed : {r x : Bool} → r ≡ x → not r ≡ true → x ≡ false
failed {r} e t = sym e ∙ not-true r t

pub passed : {r x : Bool} → r ≡ x → not r ≡ false → x ≡ true
passed {r} e t = sym e ∙ not-false r t

pub nat_le_max : (d a b : ℕ) → leb d (max a b) ≡ (leb d a || leb d b)
nat_le_max d a b = go (leb d a) (leb d b) refl refl
  where
    go : (s t : Bool) → leb d a ≡ s → leb d b ≡ t → leb d (max a b) ≡ (s || t)
    go true t e f = le-leb d (max a b) (omega (arith, leb-true d a e))
    go false true e f = le-leb d (max a b) (omega (arith, leb-true d b f))
    go false false e f = lt-leb d (max a b) (omega (arith, leb-false d a e, leb-false d b f))
