-- A test at each place from one up to another, and its laws for loops.
use Prim.Native.Nat.{ℕ, zero, suc, ◌+◌, ◌*◌, ◌-◌, ◌/◌, ◌%◌, ◌≤◌, ◌<◌}
use mathlib.Core.Path.{◌≡◌, refl, sym, ◌∙◌}
use mathlib.Core.Bool.{Bool, true, false, ◌&&◌}
use mathlib.Core.List.{List}
use native.Mathlib.Decide.{dec_lt}
use native.Mathlib.Nat.{div-add-mod', div-lt_iff_lt-mul, mod-lt}
use native.Mathlib.Numerals.{add-one}
use native.Mathlib.Omega.{arith}
use lib.Dec.{eqb}
use lib.ListN.{length, get_or}
use Rattle.words.proofs.ChoiceLaws.{and_true, true_and, same_test}
use Rattle.words.specs.Lists.{all, up_from, all_zero}
use Rattle.words.specs.Sections.{tab, part}
use Rattle.words.proofs.SectionLaws.{part_cons, inside}
use Rattle.words.specs.Lists.{each}

-- ---- place by place

all_up : (f : ℕ → Bool) (m i : ℕ) → all f (up_from i m) ≡ true → (k : ℕ) → i ≤ k → k < i + m → f k ≡ true
all_up f zero i e k h g = absurd (omega arith)
all_up f (suc m) i e k h g =
    let t = and_true (f i) (all f (up_from (suc i) m)) e in
    go t.0 (λ l. all_up f m (suc i) t.1 k l (omega arith)) (dec_lt i k)
  where
    go : f i ≡ true → (i < k → f k ≡ true) → Dec (i < k) → f k ≡ true
    go a r (yes l) = r l
    go a r (no l) = let q : k ≡ i = omega arith in rw q a

up-all : (f : ℕ → Bool) (m i : ℕ) → ((k : ℕ) → i ≤ k → k < i + m → f k ≡ true) → all f (up_from i m) ≡ true
up-all f zero i h = refl
up-all f (suc m) i h =
    true_and (f i) (all f (up_from (suc i) m)) (h i (omega arith) (omega arith))
    (up-all f m (suc i) (λ k a b. h k (omega arith) (omega arith)))

pub each_at : (f : ℕ → Bool) (i n : ℕ) → each f i n ≡ true → (k : ℕ) → i ≤ k → k < n → f k ≡ true
unfolding each
each_at f i n e k a b = all_up f (n - i) i e k a (omega arith)

pub at_each : (f : ℕ → Bool) (i n : ℕ) → ((k : ℕ) → i ≤ k → k < n → f k ≡ true) → each f i n ≡ true
unfolding each
at_each f i n h = up-all f (n - i) i (λ k a b. h k a (omega arith))

-- ---- one place at a time, from the front and from the end

module _ (f : ℕ → Bool) (i n : ℕ) where
  pub each_none : n ≤ i → each f i n ≡ true
  each_none h = at_each f i n (λ k a b. absurd (omega arith))

  pub each_first : i < n → each f i n ≡ (f i && each f (i + 1) n)
  unfolding each
  each_first h = let e : n - i ≡ suc (n - (i + 1)) = omega arith in rw (e, add-one i)

  pub each_more : i < n → f i ≡ true → each f i n ≡ each f (i + 1) n
  each_more h e = each_first h ∙ rw e

  pub each-stop : i < n → f i ≡ false → each f i n ≡ false
  each-stop h e = each_first h ∙ rw e

  pub each_last : i ≤ n → each f i (n + 1) ≡ (each f i n && f n)
  each_last h =
      same_test (each f i (n + 1)) (each f i n && f n)
      (λ e. true_and (each f i n) (f n) (at_each f i n (λ k a b. each_at f i (n + 1) e k a (omega arith)))
      (each_at f i (n + 1) e n h (omega arith)))
      (λ e. let t = and_true (each f i n) (f n) e
      in at_each f i (n + 1) (λ k a b. go t.1 k (λ l. each_at f i n t.0 k a l) b (dec_lt k n)))
    where
      go : f n ≡ true → (k : ℕ) → (k < n → f k ≡ true) → k < n + 1 → Dec (k < n) → f k ≡ true
      go e k r h (yes l) = r l
      go e k r h (no l) = let q : k ≡ n = omega arith in rw q e

-- a turn of a loop that gathers the tests
pub each-grow : (f : ℕ → Bool) (i n : ℕ) {g t : Bool} → i ≤ n → g ≡ each f i n → t ≡ f n → (g && t) ≡ each f i (n + 1)
each-grow f i n h e d = rw (e, d) (sym (each_last f i n h))

-- ---- two tests, other places, other forms

pub each_and : (f g : ℕ → Bool) (i n : ℕ) → each (λ k. f k && g k) i n ≡ (each f i n && each g i n)
each_and f g i n =
    same_test (each (λ k. f k && g k) i n) (each f i n && each g i n)
    (λ e. let t : (k : ℕ) → i ≤ k → k < n
    → (f k ≡ true) × (g k ≡ true) = λ k a b. and_true (f k) (g k) (each_at (λ k. f k && g k) i n e k a b) in
    true_and (each f i n) (each g i n) (at_each f i n (λ k a b. (t k a b).0)) (at_each g i n (λ k a b. (t k a b).1)))
    (λ e. let t = and_true (each f i n) (each g i n) e in
    at_each (λ k. f k && g k) i n (λ k a b. true_and (f k) (g k) (each_at f i n t.0 k a b) (each_at g i n t.1 k a b)))

pub each_same : (f g : ℕ → Bool) (i n : ℕ) → ((k : ℕ) → i ≤ k → k < n → f k ≡ g k) → each f i n ≡ each g i n
each_same f g i n h =
    same_test (each f i n) (each g i n)
    (λ e. at_each g i n (λ k a b. sym (h k a b) ∙ each_at f i n e k a b))
    (λ e. at_each f i n (λ k a b. h k a b ∙ each_at g i n e k a b))

-- every place below n
pub all-each : (f : ℕ → Bool) (n : ℕ) → all f (up_from 0 n) ≡ each f 0 n
unfolding each
all-each f n = let e : n - 0 ≡ n = omega arith in rw e

-- every element of a list that is made by its elements
pub tab-each : {A : Type 0} (g : A → Bool) (n : ℕ) (f : ℕ → A) → all g (tab n f) ≡ each (λ k. g (f k)) 0 n
tab-each {A = A} g n f =
    same_test (all g (tab n f)) (each (λ k. g (f k)) 0 n)
    (λ e. at_each (λ k. g (f k)) 0 n (λ k a b. from n f e k b))
    (λ e. to n f (λ k b. each_at (λ k. g (f k)) 0 n e k (omega arith) b))
  where
    from : (n : ℕ) (f : ℕ → A) → all g (tab n f) ≡ true → (k : ℕ) → k < n → g (f k) ≡ true
    from zero f e k h = absurd (omega arith)
    from (suc n) f e zero h = (and_true (g (f 0)) (all g (tab n (λ k. f (suc k)))) e).0
    from (suc n) f e (suc k) h = from n (λ k. f (suc k)) (and_true (g (f 0)) (all g (tab n (λ k. f (suc k)))) e).1 k (omega arith)

    to : (n : ℕ) (f : ℕ → A) → ((k : ℕ) → k < n → g (f k) ≡ true) → all g (tab n f) ≡ true
    to zero f h = refl
    to (suc n) f h =
        true_and (g (f 0)) (all g (tab n (λ k. f (suc k)))) (h 0 (omega arith))
        (to n (λ k. f (suc k)) (λ k b. h (suc k) (omega arith)))

-- m bytes from o are zero
pub zeros-each : (b : List ℕ) (m o : ℕ) → o + m ≤ length b → all_zero (part b o m) ≡ each (λ k. eqb (get_or b k 0) 0) o (o + m)
zeros-each b zero o h = sym (each_none (λ k. eqb (get_or b k 0) 0) o (o + 0) (omega arith))
zeros-each b (suc m) o h =
    let e : suc o + m ≡ o + suc m = omega arith in
    rw (part_cons b o m (omega arith), zeros-each b m (suc o) (omega arith), e, ← add-one o)
    (sym (each_first (λ k. eqb (get_or b k 0) 0) o (o + suc m) (omega arith)))

-- m rows of k places
pub rows-each : (g : ℕ → Bool) (k m : ℕ) → each (λ v. each (λ l. g (v * k + l)) 0 k) 0 m ≡ each g 0 (m * k)
rows-each g k m =
    same_test (each row 0 m) (each g 0 (m * k))
    (λ e. at_each g 0 (m * k) (λ c a b. whole e c b (dec_lt 0 k)))
    (λ e. at_each row 0 m (λ v a b. at_each (λ l. g (v * k + l)) 0 k
    (λ l x y. each_at g 0 (m * k) e (v * k + l) (omega arith) (inside v l m k b y))))
  where
    row : ℕ → Bool
    row v = each (λ l. g (v * k + l)) 0 k

    whole : each row 0 m ≡ true → (c : ℕ) → c < m * k → Dec (0 < k) → g c ≡ true
    whole e c h (yes p) =
        let r = each_at row 0 m e (c / k) (omega arith) ((div-lt_iff_lt-mul p).1 h) in
        rw (div-add-mod' c k) at (each_at (λ l. g (c / k * k + l)) 0 k r (c % k) (omega arith) (mod-lt c p))
    whole e c h (no p) = let z : k ≡ 0 = omega arith in absurd (omega (arith, rw z at h))
