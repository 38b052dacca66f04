-- Laws of specs/Sections.antt.
-- Lists made of sections, and sections made of elements of one size: where a byte stands, and what a store does. No law here knows a
-- layout: the size of an element and its encoder are parameters.
use mathlib.Core.Path.{◌≡◌, refl, sym, ap, ◌∙◌}
use mathlib.Core.List.{List, [], ◌∷◌, ◌++◌, map}
use Prim.Native.Nat.{ℕ, zero, suc, ◌+◌, ◌*◌, ◌≤◌, ◌<◌, suc-le-suc}
use native.Mathlib.Nat.{zero-add, add-zero, suc-add, add-suc, add_assoc, suc-mul, zero-mul, not-suc-le-zero, le_of_suc-le-suc, suc_inj}
use native.Mathlib.Nat.{suc-ne-zero, zero-lt-suc, le_refl, lt_of_lt_of_le, mul-le-mul_right, add_comm}
use native.Mathlib.Numerals.{add-one}
use native.Mathlib.Omega.{arith}
use lib.ListN.{length, get_or, set, take, drop, length-append, length-set, length-drop, drop_of_length-le, take-append-drop, get_or-append}
use lib.ListN.{get_or-eq_default, length-map}
use Rattle.words.specs.Lists.{joined, sum}
use lib.Seq.{sets, get_or-append-add, set-append_left, take-add, drop-drop, drop-cons, get_or-take, get_or-drop, length-take-le, take-suc}
use Rattle.words.specs.Sections.{flat, fit, tab, part}

-- ---- stores into an append

pub set_append_right : (xs ys : List ℕ) (i a : ℕ) → set (xs ++ ys) (length xs + i) a ≡ xs ++ set ys i a
set_append_right [] ys i a = rw zero-add
set_append_right (x ∷ xs) ys i a = rw suc-add (ap (λ (r : List ℕ). x ∷ r) (set_append_right xs ys i a))

pub sets_append_right : (vs xs ys : List ℕ) (i : ℕ) → sets (xs ++ ys) (length xs + i) vs ≡ xs ++ sets ys i vs
sets_append_right [] xs ys i = refl
sets_append_right (a ∷ vs) xs ys i =
    rw (set_append_right, ← add-suc (length xs) i) (sets_append_right vs xs (set ys i a) (suc i))

pub sets_append_left : (vs xs ys : List ℕ) (i : ℕ) → i + length vs ≤ length xs → sets (xs ++ ys) i vs ≡ sets xs i vs ++ ys
sets_append_left [] xs ys i h = refl
sets_append_left (a ∷ vs) xs ys i h =
    let hi : i < length xs = omega arith in
    rw (set-append_left xs ys i a hi) (sets_append_left vs (set xs i a) ys (suc i) (rw length-set (omega arith)))

-- ---- a list of sections

-- where section k starts
abbrev pub start : List (List ℕ) → ℕ → ℕ
start [] k = 0
start (s ∷ ss) zero = 0
start (s ∷ ss) (suc k) = length s + start ss k

pub get_or-joined : (ss : List (List ℕ)) (k i : ℕ) → i < length (get_or ss k []) → get_or (joined ss) (start ss k + i) 0 ≡ get_or (get_or ss k []) i 0
get_or-joined [] k i h = absurd (not-suc-le-zero h)
get_or-joined (s ∷ ss) zero i h = rw zero-add (get_or-append s (joined ss) 0 i h)
get_or-joined (s ∷ ss) (suc k) i h = rw add_assoc (get_or-append-add s (joined ss) (start ss k + i) 0 ∙ get_or-joined ss k i h)

pub sets-joined : (ss : List (List ℕ)) (k i : ℕ) (vs : List ℕ) → k < length ss → i + length vs ≤ length (get_or ss k [])
    → sets (joined ss) (start ss k + i) vs ≡ joined (set ss k (sets (get_or ss k []) i vs))
sets-joined [] k i vs hk h = absurd (not-suc-le-zero hk)
sets-joined (s ∷ ss) zero i vs hk h = rw zero-add (sets_append_left vs s (joined ss) i h)
sets-joined (s ∷ ss) (suc k) i vs hk h =
    rw add_assoc (sets_append_right vs s (joined ss) (start ss k + i)
    ∙ ap (λ (r : List ℕ). s ++ r) (sets-joined ss k i vs (le_of_suc-le-suc hk) h))

-- ---- elements of one size

module _ {A : Type 0} where
  map-set : (enc : A → List ℕ) (xs : List A) (p : ℕ) (y : A) → set (map enc xs) p (enc y) ≡ map enc (set xs p y)
  map-set enc [] p y = refl
  map-set enc (x ∷ xs) zero y = refl
  map-set enc (x ∷ xs) (suc p) y = ap (λ (r : List (List ℕ)). enc x ∷ r) (map-set enc xs p y)

  map-get_or : (enc : A → List ℕ) (xs : List A) (p : ℕ) (d : A) → p < length xs → get_or (map enc xs) p [] ≡ enc (get_or xs p d)
  map-get_or enc [] p d h = absurd (not-suc-le-zero h)
  map-get_or enc (x ∷ xs) zero d h = refl
  map-get_or enc (x ∷ xs) (suc p) d h = map-get_or enc xs p d (le_of_suc-le-suc h)

module _ {A : Type 0} (k : ℕ) (enc : A → List ℕ) (size : (x : A) → length (enc x) ≡ k) where
  pub length-flat : (xs : List A) → length (flat enc xs) ≡ length xs * k
  length-flat [] = sym (zero-mul k)
  length-flat (x ∷ xs) = rw (length-append, size x, length-flat xs, suc-mul) (omega arith)

  start-flat : (xs : List A) (p : ℕ) → p < length xs → start (map enc xs) p ≡ p * k
  start-flat [] p h = absurd (not-suc-le-zero h)
  start-flat (x ∷ xs) zero h = sym (zero-mul k)
  start-flat (x ∷ xs) (suc p) h = rw (size x, start-flat xs p (le_of_suc-le-suc h), suc-mul) (omega arith)

  pub get_or-flat : (xs : List A) (p j : ℕ) (d : A) → p < length xs → j < k → get_or (flat enc xs) (p * k + j) 0 ≡ get_or (enc (get_or xs p d)) j 0
  get_or-flat xs p j d hp hj =
      rw (← start-flat xs p hp)
      (get_or-joined (map enc xs) p j (rw (map-get_or enc xs p d hp, size) hj) ∙ rw (map-get_or enc xs p d hp))

  -- a store within element p, that makes it y
  pub sets-flat : (xs : List A) (p j : ℕ) (d : A) (vs : List ℕ) (y : A) → p < length xs → j + length vs ≤ k
      → sets (enc (get_or xs p d)) j vs ≡ enc y → sets (flat enc xs) (p * k + j) vs ≡ flat enc (set xs p y)
  sets-flat xs p j d vs y hp hj e =
      rw (← start-flat xs p hp)
      (sets-joined (map enc xs) p j vs (rw length-map hp) (rw (map-get_or enc xs p d hp, size) hj)
      ∙ rw (map-get_or enc xs p d hp, e, map-set enc xs p y))

-- ---- a list cut or filled up to n elements

module _ {A : Type 0} where
  pub length-fit : (d : A) (n : ℕ) (l : List A) → length (fit d n l) ≡ n
  length-fit d zero l = refl
  length-fit d (suc n) [] = ap suc (length-fit d n [])
  length-fit d (suc n) (x ∷ l) = ap suc (length-fit d n l)

  pub fit_all : (d : A) (n : ℕ) (l : List A) → length l ≡ n → fit d n l ≡ l
  fit_all d zero [] e = refl
  fit_all d zero (x ∷ l) e = absurd (suc-ne-zero (length l) e)
  fit_all d (suc n) [] e = absurd (suc-ne-zero n (sym e))
  fit_all d (suc n) (x ∷ l) e = ap (λ (r : List A). x ∷ r) (fit_all d n l (suc_inj e))

  pub get_or-fit : (d : A) (n : ℕ) (l : List A) (p : ℕ) → p < n → get_or (fit d n l) p d ≡ get_or l p d
  get_or-fit d zero l p h = absurd (not-suc-le-zero h)
  get_or-fit d (suc n) [] zero h = refl
  get_or-fit d (suc n) [] (suc p) h = get_or-fit d n [] p (le_of_suc-le-suc h)
  get_or-fit d (suc n) (x ∷ l) zero h = refl
  get_or-fit d (suc n) (x ∷ l) (suc p) h = get_or-fit d n l p (le_of_suc-le-suc h)

  pub set-fit : (d : A) (n : ℕ) (l : List A) (p : ℕ) (y : A) → p < length l → set (fit d n l) p y ≡ fit d n (set l p y)
  set-fit d n [] p y h = absurd (not-suc-le-zero h)
  set-fit d zero (x ∷ l) zero y h = refl
  set-fit d zero (x ∷ l) (suc p) y h = refl
  set-fit d (suc n) (x ∷ l) zero y h = refl
  set-fit d (suc n) (x ∷ l) (suc p) y h = ap (λ (r : List A). x ∷ r) (set-fit d n l p y (le_of_suc-le-suc h))

  pub set-fit-end : (d : A) (n : ℕ) (l : List A) (y : A) → length l < n → set (fit d n l) (length l) y ≡ fit d n (l ++ y ∷ [])
  set-fit-end d zero l y h = absurd (not-suc-le-zero h)
  set-fit-end d (suc n) [] y h = refl
  set-fit-end d (suc n) (x ∷ l) y h = ap (λ (r : List A). x ∷ r) (set-fit-end d n l y (le_of_suc-le-suc h))

  pub length-tab : (n : ℕ) (f : ℕ → A) → length (tab n f) ≡ n
  length-tab zero f = refl
  length-tab (suc n) f = ap suc (length-tab n (λ k. f (suc k)))

  pub get_or-tab : (n : ℕ) (f : ℕ → A) (p : ℕ) (d : A) → p < n → get_or (tab n f) p d ≡ f p
  get_or-tab zero f p d h = absurd (not-suc-le-zero h)
  get_or-tab (suc n) f zero d h = refl
  get_or-tab (suc n) f (suc p) d h = get_or-tab n (λ k. f (suc k)) p d (le_of_suc-le-suc h)

  pub tab-list : (n : ℕ) (f : ℕ → A) (l : List A) (d : A) → length l ≡ n → ((p : ℕ) → p < n → f p ≡ get_or l p d) → tab n f ≡ l
  tab-list zero f [] d e h = refl
  tab-list zero f (x ∷ l) d e h = absurd (suc-ne-zero (length l) e)
  tab-list (suc n) f [] d e h = absurd (suc-ne-zero n (sym e))
  tab-list (suc n) f (x ∷ l) d e h =
      λ i. h zero (zero-lt-suc n) i ∷ tab-list n (λ k. f (suc k)) l d (suc_inj e) (λ p b. h (suc p) (suc-le-suc b)) i

-- ---- a section: n places of one size, of which the list fills the first, and d the rest

module _ {A : Type 0} (k : ℕ) (enc : A → List ℕ) (size : (x : A) → length (enc x) ≡ k) (d : A) (n : ℕ) (xs : List A) where
  pub length_sect : length (flat enc (fit d n xs)) ≡ n * k
  length_sect = length-flat k enc size (fit d n xs) ∙ ap (λ (m : ℕ). m * k) (length-fit d n xs)

  pub get_or_sect : (p j : ℕ) → p < n → j < k → get_or (flat enc (fit d n xs)) (p * k + j) 0 ≡ get_or (enc (get_or xs p d)) j 0
  get_or_sect p j hp hj =
      get_or-flat k enc size (fit d n xs) p j d (rw length-fit hp) hj ∙ ap (λ (x : A). get_or (enc x) j 0) (get_or-fit d n xs p hp)

  pub sets_sect : (p j : ℕ) (vs : List ℕ) (y : A) → p < n → p < length xs → j + length vs ≤ k → sets (enc (get_or xs p d)) j vs ≡ enc y
      → sets (flat enc (fit d n xs)) (p * k + j) vs ≡ flat enc (fit d n (set xs p y))
  sets_sect p j vs y hn hp hj e =
      sets-flat k enc size (fit d n xs) p j d vs y (rw length-fit hn) hj (rw (get_or-fit d n xs p hn) e)
      ∙ ap (λ (l : List A). flat enc l) (set-fit d n xs p y hp)

  -- the next free place is filled
  pub sets_end : (vs : List ℕ) (y : A) → length xs < n → length vs ≤ k → sets (enc d) 0 vs ≡ enc y
      → sets (flat enc (fit d n xs)) (length xs * k) vs ≡ flat enc (fit d n (xs ++ y ∷ []))
  sets_end vs y h hj e =
      let out : get_or xs (length xs) d ≡ d = get_or-eq_default xs d (le_refl (length xs)) in
      rw (← add-zero (length xs * k))
      (sets-flat k enc size (fit d n xs) (length xs) 0 d vs y (rw length-fit h) (omega arith) (rw (get_or-fit d n xs (length xs) h, out) e)
      ∙ ap (λ (l : List A). flat enc l) (set-fit-end d n xs y h))

-- ---- the bound of a place in a table of n rows of k
pub inside : (p j n k : ℕ) → p < n → j < k → p * k + j < n * k
inside p j n k hp hj = lt_of_lt_of_le (rw suc-mul (omega arith)) (mul-le-mul_right k hp)

pub part-add : (b : List ℕ) (o m m' : ℕ) → part b o (m + m') ≡ part b o m ++ part b (o + m) m'
part-add b o m m' = take-add m m' (drop o b) ∙ ap (λ (r : List ℕ). part b o m ++ take m' r) (drop-drop m o b)

pub part_cons : (b : List ℕ) (o m : ℕ) → o < length b → part b o (suc m) ≡ get_or b o 0 ∷ part b (suc o) m
part_cons b o m h = ap (λ (r : List ℕ). take (suc m) r) (drop-cons b o 0 h)

-- a part, element by element
pub part-tab : (m : ℕ) (b : List ℕ) (o : ℕ) (f : ℕ → ℕ) → o + m ≤ length b → ((i : ℕ) → i < m → f i ≡ get_or b (o + i) 0)
    → tab m f ≡ part b o m
part-tab m b o f h g =
    tab-list m f (part b o m) 0 (length-take-le m (drop o b) (rw length-drop (omega arith)))
    (λ i hi. g i hi ∙ sym (get_or-take m (drop o b) i 0 hi ∙ get_or-drop o b i 0))

pub flat-tab : {A : Type 0} (n k : ℕ) (enc : A → List ℕ) (f : ℕ → A) (b : List ℕ) (o : ℕ)
    → ((p : ℕ) → p < n → enc (f p) ≡ part b (o + p * k) k) → flat enc (tab n f) ≡ part b o (n * k)
flat-tab zero k enc f b o h = rw zero-mul
flat-tab (suc n) k enc f b o h =
    let r : flat enc (tab n (λ i. f (suc i))) ≡ part b (o + k) (n * k) =
    flat-tab n k enc (λ i. f (suc i)) b (o + k)
    (λ p hp. rw (← step p) (h (suc p) (suc-le-suc hp)))
    in
    let h0 : enc (f zero) ≡ part b o k = rw (zero-mul, add-zero) at (h zero (zero-lt-suc n)) in
    rw (r, h0, suc-mul, add_comm (n * k) k) (sym (part-add b o k (n * k)))
  where
    step : (p : ℕ) → o + suc p * k ≡ o + k + p * k
    step p = rw suc-mul (omega arith)

module _ {A : Type 0} where
  fit_nil : (d : A) (n : ℕ) (f : ℕ → A) → ((q : ℕ) → q < n → f q ≡ d) → fit d n [] ≡ tab n f
  fit_nil d zero f h = refl
  fit_nil d (suc n) f h = λ i. sym (h zero (zero-lt-suc n)) i ∷ fit_nil d n (λ k. f (suc k)) (λ q b. h (suc q) (suc-le-suc b)) i

  -- the first u of n, where the others are d
  pub fit-tab : (d : A) (u n : ℕ) (f : ℕ → A) → u ≤ n → ((q : ℕ) → u ≤ q → q < n → f q ≡ d) → fit d n (tab u f) ≡ tab n f
  fit-tab d zero n f h g = fit_nil d n f (λ q b. g q (omega arith) b)
  fit-tab d (suc u) zero f h g = absurd (not-suc-le-zero h)
  fit-tab d (suc u) (suc n) f h g =
      ap (λ (r : List A). f zero ∷ r)
      (fit-tab d u n (λ k. f (suc k)) (le_of_suc-le-suc h) (λ q a b. g (suc q) (suc-le-suc a) (suc-le-suc b)))

-- ---- parts one after the other, to the end
abbrev pub parts_of : List ℕ → ℕ → List ℕ → List (List ℕ)
parts_of b o [] = []
parts_of b o (m ∷ ms) = part b o m ∷ parts_of b (o + m) ms

pub joined-parts : (ms : List ℕ) (b : List ℕ) (o : ℕ) → length b ≤ o + sum ms → joined (parts_of b o ms) ≡ drop o b
joined-parts [] b o h = sym (drop_of_length-le b {i = o} (omega arith))
joined-parts (m ∷ ms) b o h =
    ap (λ (r : List ℕ). part b o m ++ r) (joined-parts ms b (o + m) (omega arith) ∙ sym (drop-drop m o b)) ∙ take-append-drop m (drop o b)

-- ---- a run of stores, one longer; past the first element; over the whole
pub sets-snoc : (vs l : List ℕ) (i a : ℕ) → sets l i (vs ++ a ∷ []) ≡ set (sets l i vs) (i + length vs) a
sets-snoc [] l i a = rw add-zero
sets-snoc (v ∷ vs) l i a = sets-snoc vs (set l i v) (suc i) a ∙ ap (λ (k : ℕ). set (sets (set l i v) (suc i) vs) k a) (omega arith)

pub sets_cons : (vs l : List ℕ) (x i : ℕ) → sets (x ∷ l) (suc i) vs ≡ x ∷ sets l i vs
sets_cons [] l x i = refl
sets_cons (v ∷ vs) l x i = sets_cons vs (set l i v) x (suc i)

pub sets-whole : (vs l : List ℕ) → length vs ≡ length l → sets l 0 vs ≡ vs
sets-whole [] [] e = refl
sets-whole [] (x ∷ l) e = absurd (suc-ne-zero (length l) (sym e))
sets-whole (v ∷ vs) [] e = absurd (suc-ne-zero (length vs) e)
sets-whole (v ∷ vs) (x ∷ l) e = sets_cons vs l v 0 ∙ ap (λ (r : List ℕ). v ∷ r) (sets-whole vs l (suc_inj e))

-- a turn of the loop that copies s to `at`
pub sets_more : (s d : List ℕ) (at i : ℕ) → i < length s → set (sets d at (take i s)) (at + i) (get_or s i 0) ≡ sets d at (take (i + 1) s)
sets_more s d at i h =
    let n : length (take i s) ≡ i = length-take-le i s (omega arith) in
    let e : take (i + 1) s ≡ take i s ++ (get_or s i 0 ∷ []) = rw add-one (take-suc s i 0 h) in
    sym (ap (λ (vs : List ℕ). sets d at vs) e ∙ sets-snoc (take i s) d at (get_or s i 0)
    ∙ ap (λ (k : ℕ). set (sets d at (take i s)) (at + k) (get_or s i 0)) n)
