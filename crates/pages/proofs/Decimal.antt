-- Laws of `decimal`: it is one digit, or the digits of the tenth part and one more; how many digits there are, what they say, and that
-- the first isn't zero.
use Prim.Native.Nat.{ℕ, zero, suc, ◌+◌, ◌-◌, ◌*◌, ◌/◌, ◌%◌, ◌^◌, ◌≤◌, ◌<◌}
use mathlib.Core.Path.{◌≡◌, refl, ap, ◌∙◌}
use mathlib.Core.Bool.{Bool, true, false}
use mathlib.Core.List.{List, [], ◌∷◌, ◌++◌}
use native.Mathlib.Decide.{dec_lt}
use native.Mathlib.Nat.{pow-suc}
use native.Mathlib.Omega.{arith}
use lib.Dec.{ltb}
use lib.ListN.{length, get_or, length-append, get_or-append}
use borrow.Author.Tests.{ltb-true, ltb-false, lt-ltb, le-ltb}
use Rattle.words.specs.Choice.{when◌then◌else◌}
use Rattle.pages.specs.Tally.{digits, decimal}

-- more room than a number needs changes nothing
digits_enough : (j k n : ℕ) → n < j → n < k → digits j n ≡ digits k n
digits_enough zero k n h g = absurd (omega arith)
digits_enough (suc j) zero n h g = absurd (omega arith)
digits_enough (suc j) (suc k) n h g = go (ltb n 10) refl (λ e. digits_enough j k (n / 10) (omega arith) (omega arith))
  where
    go : (t : Bool) → ltb n 10 ≡ t → (10 ≤ n → digits j (n / 10) ≡ digits k (n / 10))
        → (when t then (48 + n) ∷ [] else digits j (n / 10) ++ (48 + n % 10) ∷ [])
        ≡ (when t then (48 + n) ∷ [] else digits k (n / 10) ++ (48 + n % 10) ∷ [])
    go true e ih = refl
    go false e ih = ap (λ (l : List ℕ). l ++ (48 + n % 10) ∷ []) (ih (ltb-false n 10 e))

pub decimal-one : (n : ℕ) → n < 10 → decimal n ≡ (48 + n) ∷ []
unfolding decimal
decimal-one n h = rw (lt-ltb n 10 h)

pub decimal-more : (n : ℕ) → 10 ≤ n → decimal n ≡ decimal (n / 10) ++ (48 + n % 10) ∷ []
unfolding decimal
decimal-more n h =
    rw (le-ltb n 10 h) (ap (λ (l : List ℕ). l ++ (48 + n % 10) ∷ []) (digits_enough n (suc (n / 10)) (n / 10) (omega arith) (omega arith)))

pub count-one : (n : ℕ) → n < 10 → length (decimal n) ≡ 1
count-one n h = ap length (decimal-one n h)

pub count-more : (n : ℕ) → 10 ≤ n → length (decimal n) ≡ length (decimal (n / 10)) + 1
count-more n h = ap length (decimal-more n h) ∙ length-append (decimal (n / 10)) ((48 + n % 10) ∷ [])

-- a number below 10 ^ (k + 1) has at most k + 1 digits
pub decimal-length : (k n : ℕ) → n < 10 ^ suc k → length (decimal n) ≤ suc k
decimal-length zero n h = omega (arith, count-one n h)
decimal-length (suc k) n h = go (ltb n 10) refl (decimal-length k (n / 10) (omega (arith, pow-suc 10 (suc k))))
  where
    go : (t : Bool) → ltb n 10 ≡ t → length (decimal (n / 10)) ≤ suc k → length (decimal n) ≤ suc (suc k)
    go true e ih = omega (arith, count-one n (ltb-true n 10 e))
    go false e ih = omega (arith, count-more n (ltb-false n 10 e))

-- its digits with room for that many: a case computes them without counting to n
pub decimal-few : (k n : ℕ) → n < 10 ^ suc k → decimal n ≡ digits (suc k) n
decimal-few zero n h = decimal-one n h ∙ rw (lt-ltb n 10 h)
decimal-few (suc k) n h = go (ltb n 10) refl (decimal-few k (n / 10) (omega (arith, pow-suc 10 (suc k))))
  where
    go : (t : Bool) → ltb n 10 ≡ t → decimal (n / 10) ≡ digits (suc k) (n / 10)
        → decimal n ≡ (when t then (48 + n) ∷ [] else digits (suc k) (n / 10) ++ (48 + n % 10) ∷ [])
    go true e ih = decimal-one n (ltb-true n 10 e)
    go false e ih = decimal-more n (ltb-false n 10 e) ∙ ap (λ (l : List ℕ). l ++ (48 + n % 10) ∷ []) ih

-- ---- what holds of one digit, and of a number where it holds of the tenth part, holds of every number

module _ (P : ℕ → Type 0) (one : (n : ℕ) → n < 10 → P n) (more : (n : ℕ) → 10 ≤ n → P (n / 10) → P n) where
  below : (k n : ℕ) → n < k → P n
  below zero n h = absurd (omega arith)
  below (suc k) n h = go (dec_lt n 10) (below k (n / 10))
    where
      go : Dec (n < 10) → (n / 10 < k → P (n / 10)) → P n
      go (yes l) ih = one n l
      go (no l) ih = more n (omega arith) (ih (omega arith))

  by_digits : (n : ℕ) → P n
  by_digits n = below (suc n) n (omega arith)

-- the number that digits say, where the digits before them say v
abbrev pub said : ℕ → List ℕ → ℕ
said v [] = v
said v (d ∷ ds) = said (v * 10 + (d - 48)) ds

said_append : (v : ℕ) (a b : List ℕ) → said v (a ++ b) ≡ said (said v a) b
said_append v [] b = refl
said_append v (d ∷ a) b = said_append (v * 10 + (d - 48)) a b

pub decimal-said : (n : ℕ) → said 0 (decimal n) ≡ n
decimal-said =
    by_digits (λ n. said 0 (decimal n) ≡ n)
    (λ n h. rw (decimal-one n h) (omega arith))
    (λ n h ih. rw (decimal-more n h, said_append, ih) (omega arith))

-- there is a digit, and no leading zero
pub decimal-first : (n : ℕ) → (0 < length (decimal n)) × (0 < n → 48 < get_or (decimal n) 0 0)
decimal-first =
    by_digits (λ n. (0 < length (decimal n)) × (0 < n → 48 < get_or (decimal n) 0 0))
    (λ n h. rw (decimal-one n h) (omega arith, λ p. omega arith))
    (λ n h ih.
    let l : 0 < length (decimal (n / 10)) = ih.0 in (
      omega (arith, count-more n h),
      λ p. rw
          (decimal-more n h, get_or-append (decimal (n / 10)) ((48 + n % 10) ∷ []) 0 0 l) (ih.1 (omega arith)),
    ))
