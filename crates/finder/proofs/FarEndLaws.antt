-- Laws of specs/FarEnd.antt: what a number of agreeing bytes says of two fingerprints.
use Prim.Native.Nat.{ℕ, zero, suc, ◌+◌, ◌-◌, ◌≤◌, ◌<◌}
use mathlib.Core.Path.{◌≡◌, refl, sym, ap, ◌∙◌}
use mathlib.Core.Bool.{Bool, true, false}
use mathlib.Core.List.{List}
use native.Mathlib.Decide.{dec_lt}
use native.Mathlib.Numerals.{add-one}
use native.Mathlib.Omega.{arith}
use lib.Dec.{eqb}
use lib.ListN.{length, get_or}
use lib.Seq.{ext_get_or}
use borrow.Author.Tests.{eqb-true, eq-eqb, ne_eqb}
use Rattle.words.proofs.ChoiceLaws.{not_both}
use Rattle.words.specs.Blocks.{print_size}
use Rattle.words.specs.Choice.{when◌then◌else◌}
use Rattle.words.specs.Lists.{same}
use Rattle.words.proofs.Same.{same_self, same_equal}
use Rattle.words.proofs.Tests.{surely_not}
use Rattle.finder.specs.FarEnd.{agreeing_in, agreeing}

-- of the first n bytes k agree from the last one down: the byte before these differs, where there is one
pub record FarAgreement (a b : List ℕ) (n k : ℕ) : Type 0 where
  pub within : k ≤ n
  pub behind : (j : ℕ) → n ≤ j + k → j < n → get_or a j 0 ≡ get_or b j 0
  pub stops : (j : ℕ) → j + k + 1 ≡ n → get_or a j 0 ≡ get_or b j 0 → ⊥

module _ (a b : List ℕ) where
  -- one byte more in front of those that were compared
  agree-more : (i k : ℕ) → get_or a i 0 ≡ get_or b i 0 → FarAgreement a b i k → FarAgreement a b (suc i) (suc k)
  agree-more i k e s = record {
    within = omega (arith, s.within);
    behind = λ j l m. go j l m (dec_lt j i);
    stops = λ j l. s.stops j (omega arith);
  }
    where
      go : (j : ℕ) → suc i ≤ j + suc k → j < suc i → Dec (j < i) → get_or a j 0 ≡ get_or b j 0
      go j l m (yes z) = s.behind j (omega arith) z
      go j l m (no z) = let w : j ≡ i = omega arith in rw w e

  agree-none : (i : ℕ) → (get_or a i 0 ≡ get_or b i 0 → ⊥) → FarAgreement a b (suc i) 0
  agree-none i d = record {
    within = omega arith;
    behind = λ j l m. absurd (omega arith);
    stops = λ j l. let w : j ≡ i = omega arith in rw w d;
  }

  agree_in : (i : ℕ) → FarAgreement a b i (agreeing_in i a b)
  agree_in zero = record { within = omega arith; behind = λ j l m. absurd (omega arith); stops = λ j l. absurd (omega arith) }
  agree_in (suc i) = go (eqb (get_or a i 0) (get_or b i 0)) refl (agree_in i)
    where
      go : (t : Bool) → eqb (get_or a i 0) (get_or b i 0) ≡ t → FarAgreement a b i (agreeing_in i a b)
          → FarAgreement a b (suc i) (when t then suc (agreeing_in i a b) else 0)
      go true e s = agree-more i (agreeing_in i a b) (eqb-true (get_or a i 0) (get_or b i 0) e) s
      go false e s = agree-none i (λ z. not_both (eqb (get_or a i 0) (get_or b i 0)) (eq-eqb (get_or a i 0) (get_or b i 0) z) e)

  -- the byte at which it stops differs, and all behind it agree
  pub agree-is : FarAgreement a b print_size (agreeing a b)
  unfolding agreeing
  agree-is = agree_in print_size

  -- ---- a turn of the loop: byte `at` is the last of the first i

  module _ (i at : ℕ) (p : at + 1 ≡ i) where
    pub turn-agrees : get_or a at 0 ≡ get_or b at 0 → agreeing_in i a b ≡ agreeing_in at a b + 1
    turn-agrees e = rw (sym p, add-one at, eq-eqb (get_or a at 0) (get_or b at 0) e) (sym (add-one (agreeing_in at a b)))

    pub turn_differs : (get_or a at 0 ≡ get_or b at 0 → ⊥) → agreeing_in i a b ≡ 0
    turn_differs d = rw (sym p, add-one at, ne_eqb (get_or a at 0) (get_or b at 0) d)

  -- ---- 16 exactly when all are equal

  module _ (l : length a ≡ print_size) (m : length b ≡ print_size) {k : ℕ} (e : k ≡ agreeing a b) where
    pub all-agree : print_size ≤ k → same a b ≡ true
    all-agree z =
        let s = agree-is in
        rw (ext_get_or 0 a b (l ∙ sym m) (λ j i. s.behind j (omega (arith, e)) (omega (arith, l)))) (same_self b)

    pub one_differs : (k ≡ print_size → ⊥) → same a b ≡ false
    one_differs z =
        let s = agree-is in
        let at = print_size - 1 - k in
        surely_not (same a b)
        (λ y. s.stops at (omega (arith, e)) (ap (λ (c : List ℕ). get_or c at 0) (same_equal a b y)))
