-- Laws of specs/Reading.antt.
-- Laws of a list of calls that is read from an offset on: its end, its next call, and what a call in it is.
use Prim.Native.Nat.{ℕ, zero, suc, ◌+◌, ◌-◌, ◌≤◌, ◌<◌}
use mathlib.Core.Path.{◌≡◌, refl, sym, ap, ◌∙◌}
use mathlib.Core.Bool.{Bool, true, false, ◌&&◌}
use mathlib.Core.List.{List, [], ◌∷◌}
use native.Mathlib.Omega.{arith}
use lib.Dec.{leb, eqb}
use lib.ListN.{length, get_or}
use borrow.Author.Tests.{leb-true, le-leb, lt-leb, eq-eqb, ne_eqb}
use Rattle.words.proofs.Accepted.{refused_not, then-accepted}
use Rattle.words.specs.Choice.{when◌then◌else◌}
use Rattle.words.proofs.ChoiceLaws.{and_true, same_test}
use Rattle.words.specs.Numbers.{num}
use Rattle.words.specs.Outcome.{Outcome, refused, accepted, and_then}
use Rattle.words.specs.Sections.{part}
use Rattle.calls.specs.Asked.{Asked}
use Rattle.calls.specs.Coding.{data_size, call_size, unused_zero_at, call_of, is_call, call_at, before, calls_from}
use Rattle.calls.specs.Reading.{rest_of, Good}

module _ (b : List ℕ) where
  -- the end
  pub calls-end : (n at : ℕ) → length b ≤ at → calls_from n b at ≡ accepted []
  calls-end zero at h = rw (le-leb (length b) at h)
  calls-end (suc n) at h = rw (le-leb (length b) at h)

  -- an offset before the end where no call stands
  pub calls_broken : (n at : ℕ) → at < length b → is_call b at ≡ false → calls_from n b at ≡ refused 19
  calls_broken zero at h e = rw (lt-leb (length b) at h)
  calls_broken (suc n) at h e = rw (lt-leb (length b) at h, e)

  size-some : (at : ℕ) → 14 ≤ call_size b at
  unfolding call_size
  size-some at = omega arith

  -- a bound that is high enough is as good as another
  bound-same : (m n at : ℕ) → length b ≤ at + m → length b ≤ at + n → calls_from m b at ≡ calls_from n b at
  bound-same zero n at h k = rw (calls-end zero at (omega arith), calls-end n at (omega arith))
  bound-same (suc m) zero at h k = rw (calls-end (suc m) at (omega arith), calls-end zero at (omega arith))
  bound-same (suc m) (suc n) at h k =
      let s = size-some at in
      go (leb (length b) at) (is_call b at) (bound-same m n (at + call_size b at) (omega arith) (omega arith))
    where
      go : (t u : Bool) → calls_from m b (at + call_size b at) ≡ calls_from n b (at + call_size b at)
          → (when t then accepted [] else when u then and_then (calls_from m b (at + call_size b at)) (before (call_at b at)) else refused 19)
          ≡ (when t then accepted [] else when u then and_then (calls_from n b (at + call_size b at)) (before (call_at b at)) else refused 19)
      go true u e = refl
      go false true e = ap (λ (o : Outcome (List Asked)). and_then o (before (call_at b at))) e
      go false false e = refl

  -- a call, and the calls behind it
  pub calls-more : (n at : ℕ) → length b ≤ at + n → at < length b → is_call b at ≡ true
      → calls_from n b at ≡ and_then (calls_from n b (at + call_size b at)) (before (call_at b at))
  calls-more zero at h l e = absurd (omega arith)
  calls-more (suc n) at h l e =
      let s = size-some at in
      rw (lt-leb (length b) at l, e)
      (ap (λ (o : Outcome (List Asked)). and_then o (before (call_at b at)))
      (bound-same n (suc n) (at + call_size b at) (omega arith) (omega arith)))

  -- bytes that are no list are refused by 19
  pub calls-refused : (n at k : ℕ) → calls_from n b at ≡ refused k → k ≡ 19
  calls-refused zero at k e = go (leb (length b) at) e
    where
      go : (t : Bool) → ◌≡◌ {A = Outcome (List Asked)} (when t then accepted [] else refused 19) (refused k) → k ≡ 19
      go true f = absurd (refused_not k [] (sym f))
      go false f = cc
  calls-refused (suc n) at k e =
      go (leb (length b) at) (is_call b at) (calls_from n b (at + call_size b at)) (calls-refused n (at + call_size b at)) e
    where
      go : (t u : Bool) (o : Outcome (List Asked)) → ((j : ℕ) → o ≡ refused j → j ≡ 19)
          → (when t then accepted [] else when u then and_then o (before (call_at b at)) else refused 19) ≡ refused k → k ≡ 19
      go true u o ih f = absurd (refused_not k [] (sym f))
      go false true (refused j) ih f = ih k f
      go false true (accepted cs) ih f = absurd (refused_not k (call_at b at ∷ cs) (sym f))
      go false false o ih f = cc

  -- ---- the calls from an offset on, and that they are calls to the end

  pub good-accepted : (at : ℕ) (cs : List Asked) → calls_from (length b) b at ≡ accepted cs → Good b at × (rest_of b at ≡ cs)
  good-accepted at cs e = (rw e, rw e)

  pub rest_end : (at : ℕ) → length b ≤ at → rest_of b at ≡ []
  rest_end at h = rw (calls-end (length b) at h)

  pub record Next (at : ℕ) : Type 0 where
    pub is : is_call b at ≡ true
    pub split : rest_of b at ≡ call_at b at ∷ rest_of b (at + call_size b at)
    pub good : Good b (at + call_size b at)

  pub next-good : (at : ℕ) → at < length b → Good b at → Next at
  next-good at h g = go (is_call b at) refl
    where
      go : (t : Bool) → is_call b at ≡ t → Next at
      go false e = absurd (refused_not 19 (rest_of b at) (sym (calls_broken (length b) at h e) ∙ g))
      go true e =
          let t =
          then-accepted (calls_from (length b) b (at + call_size b at)) (before (call_at b at)) (rest_of b at)
          (sym (calls-more (length b) at (omega arith) h e) ∙ g)
          in
          let k = good-accepted (at + call_size b at) t.0 t.1 in
          let same : call_at b at ∷ t.0 ≡ rest_of b at = let z = t.2 in cc in
          record { is = e; split = sym same ∙ ap (λ (cs : List Asked). call_at b at ∷ cs) (sym k.1); good = k.0 }

  -- ---- a call

  module _ (at : ℕ) where
    -- past it
    pub call-past : at + 14 + data_size b at ≡ at + call_size b at
    unfolding call_size
    call-past = omega arith

    abbrev tests : Bool → Bool → Bool → Bool → Bool
    tests x y z w = x && y && z && w

    is_tests : is_call b at
        ≡ tests (leb (at + 14) (length b)) (eqb (get_or b (at + 1) 0) 0) (unused_zero_at b at) (leb (at + call_size b at) (length b))
    unfolding is_call
    is_tests = refl

    pub call-inside : is_call b at ≡ true → (at + 14 ≤ length b) × (at + 14 + data_size b at ≤ length b)
    call-inside e =
        let x = leb (at + 14) (length b) in
        let y = eqb (get_or b (at + 1) 0) 0 in
        let w = and_true (x && y && unused_zero_at b at) (leb (at + call_size b at) (length b)) (sym is_tests ∙ e) in
        let v = and_true (x && y) (unused_zero_at b at) w.0 in
        let past = call-past in
        let end = leb-true (at + call_size b at) (length b) w.1 in
        (leb-true (at + 14) (length b) (and_true x y v.0).0, omega arith)

    -- the tests in their order
    pub call-short : length b < at + 14 → is_call b at ≡ false
    call-short h = is_tests ∙ rw (lt-leb (at + 14) (length b) h)

    module _ (h : at + 14 ≤ length b) where
      pub call-second : (get_or b (at + 1) 0 ≡ 0 → ⊥) → is_call b at ≡ false
      call-second n = is_tests ∙ rw (le-leb (at + 14) (length b) h, ne_eqb (get_or b (at + 1) 0) 0 n)

      module _ (z : get_or b (at + 1) 0 ≡ 0) where
        pub call_unused : unused_zero_at b at ≡ false → is_call b at ≡ false
        call_unused e = is_tests ∙ rw (le-leb (at + 14) (length b) h, eq-eqb (get_or b (at + 1) 0) 0 z, e)

        pub call_ends : unused_zero_at b at ≡ true → is_call b at ≡ leb (data_size b at) (length b - at - 14)
        call_ends e =
            let past = call-past in
            is_tests ∙ rw (le-leb (at + 14) (length b) h, eq-eqb (get_or b (at + 1) 0) 0 z, e)
            (same_test (leb (at + call_size b at) (length b)) (leb (data_size b at) (length b - at - 14))
            (λ t. le-leb (data_size b at) (length b - at - 14) (omega (arith, leb-true (at + call_size b at) (length b) t)))
            (λ t. le-leb (at + call_size b at) (length b) (omega (arith, leb-true (data_size b at) (length b - at - 14) t))))

  -- which call it is, by its kind and its first three arguments
  pub call-by : (at : ℕ) {k x y z : ℕ} → k ≡ get_or b at 0 → x ≡ num b (at + 2) → y ≡ num b (at + 4) → z ≡ num b (at + 6)
      → call_at b at ≡ call_of k x y z (num b (at + 8)) (part b (at + 14) (data_size b at))
  unfolding call_at
  call-by at e f g h = rw (e, f, g, h)
