-- The numbers that refuse a read, in order, by their tests; and what makes two reads answer alike.
use Prim.Native.Nat.{ℕ, ◌≤◌, ◌<◌}
use mathlib.Core.Path.{◌≡◌, refl}
use mathlib.Core.Bool.{Bool, true, false, not, ◌||◌}
use native.Mathlib.Omega.{arith}
use lib.Dec.{ltb, eqb}
use borrow.Author.Tests.{ltb-false, eqb-false}
use Rattle.words.specs.Choice.{when◌then◌else◌}
use Rattle.words.proofs.Tests.{or_neither}
use Rattle.words.specs.Outcome.{Outcome, unless}

-- no such volume, no such backup, kept, no such LBN, unmapped
abbrev pub refusal : Bool → Bool → Bool → Bool → Bool → ℕ
refusal a b c d e =
    when a then 5 else
    when b then 15 else
    when not c then 16 else
    when d then 17 else
    when e then 18 else
    0

-- the first three of them, and then d
abbrev pub numbers : Bool → Bool → Bool → ℕ → ℕ
numbers a b c d =
    when a then 5 else
    when b then 15 else
    when not c then 16 else
    d

pub numbers-then : {A : Type 0} (a b c : Bool) (d : ℕ) (o : Outcome A) → unless (numbers a b c d) o ≡ unless (numbers a b c 0) (unless d o)
numbers-then true b c d o = refl
numbers-then false true c d o = refl
numbers-then false false false d o = refl
numbers-then false false true d o = refl

-- two of them are alike, where each test may rely on those before it
pub same-refusal : {A : Type 0} (a b b' c c' d d' e e' : Bool) (o o' : Outcome A) → (a ≡ false → b ≡ b')
    → (a ≡ false → b ≡ false → (c ≡ c') × (d ≡ d'))
    → (a ≡ false → b ≡ false → d ≡ false → e ≡ e')
    → (a ≡ false → b ≡ false → c ≡ true → d ≡ false → e ≡ false → o ≡ o')
    → unless (refusal a b c d e) o ≡ unless (refusal a b' c' d' e') o'
same-refusal true b b' c c' d d' e e' o o' f g h k = refl
same-refusal false b b' c c' d d' e e' o o' f g h k = rw (← (f refl)) (go b refl)
  where
    go : (t : Bool) → b ≡ t → unless (refusal false t c d e) o ≡ unless (refusal false t c' d' e') o'
    go true p = refl
    go false p = let w = g refl p in rw (← w.0, ← w.1) (rest c d refl refl)
      where
        last : (u : Bool) → c ≡ true → d ≡ false → e ≡ u
            → unless (refusal false false true false u) o ≡ unless (refusal false false true false u) o'
        last true i j l = refl
        last false i j l = k refl p i j l

        rest : (s t : Bool) → c ≡ s → d ≡ t → unless (refusal false false s t e) o ≡ unless (refusal false false s t e') o'
        rest false t i j = refl
        rest true true i j = refl
        rest true false i j = rw (← (h refl p j)) (last e i j refl)

-- a number that 15 lets pass
pub number-inside : (k n : ℕ) → (eqb k 0 || ltb n k) ≡ false → (0 < k) × (k ≤ n)
number-inside k n e =
    let b = or_neither (eqb k 0) (ltb n k) e in
    let z : k ≡ 0 → ⊥ = eqb-false k 0 b.0 in
    (omega arith, ltb-false n k b.1)
