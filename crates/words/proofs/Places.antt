-- Laws of the words over lists by the places of elements.
use Prim.Native.Nat.{ℕ, zero, suc, ◌+◌, ◌≤◌, ◌<◌}
use mathlib.Core.Path.{◌≡◌, refl, ap, ◌∙◌}
use mathlib.Core.Logic.{◌⊎◌, inl, inr}
use mathlib.Core.Bool.{Bool, true, false, not, ◌||◌}
use mathlib.Core.List.{List, [], ◌∷◌, map}
use native.Mathlib.Omega.{arith}
use lib.Dec.{eqb, eqb-suc-zero}
use lib.ListN.{length, get_or, take, drop, set, replicate}
use borrow.Author.Tests.{eqb-true, eqb-false}
use Rattle.words.specs.Choice.{when◌then◌else◌}
use Rattle.words.proofs.ChoiceLaws.{and_true, true_and, or_cases, or_l, or_r, not_both}
use Rattle.words.specs.Lists.{all, some_of, those, count_of, joined, up_from}
use Rattle.words.proofs.Appends.{some_of_append}

-- a place within the list, whatever stands past the ends
pub get_d_map : {A B : Type 0} (f : A → B) (xs : List A) (i : ℕ) (d : A) (e : B) → i < length xs → get_or (map f xs) i e ≡ f (get_or xs i d)
get_d_map f [] i d e h = absurd (omega arith)
get_d_map f (x ∷ xs) zero d e h = refl
get_d_map f (x ∷ xs) (suc i) d e h = get_d_map f xs i d e (omega arith)

module _ {A : Type 0} where
  -- where all elements are the same, and past the end too
  pub get_or_replicated : (n : ℕ) (a : A) (i : ℕ) → get_or (replicate n a) i a ≡ a
  get_or_replicated zero a i = refl
  get_or_replicated (suc n) a zero = refl
  get_or_replicated (suc n) a (suc i) = get_or_replicated n a i

  module _ (f : A → Bool) where
    pub some-place : (xs : List A) (d : A) → some_of f xs ≡ true → (i : ℕ) × (i < length xs) × (f (get_or xs i d) ≡ true)
    some-place [] d e = absurd (not_both false e refl)
    some-place (x ∷ xs) d e = go (or_cases (f x) (some_of f xs) e) (some-place xs d)
      where
        go : (f x ≡ true) ⊎ (some_of f xs ≡ true) → (some_of f xs ≡ true → (i : ℕ) × (i < length xs) × (f (get_or xs i d) ≡ true))
            → (i : ℕ) × (i < suc (length xs)) × (f (get_or (x ∷ xs) i d) ≡ true)
        go (inl a) ih = (0, omega arith, a)
        go (inr b) ih = let w = ih b in (suc w.0, omega arith, w.2)

    pub place-some : (xs : List A) (d : A) (i : ℕ) → i < length xs → f (get_or xs i d) ≡ true → some_of f xs ≡ true
    place-some [] d i h e = absurd (omega arith)
    place-some (x ∷ xs) d zero h e = or_l (f x) (some_of f xs) e
    place-some (x ∷ xs) d (suc i) h e = or_r (f x) (some_of f xs) (place-some xs d i (omega arith) e)

    pub all-place : (xs : List A) (d : A) (i : ℕ) → all f xs ≡ true → i < length xs → f (get_or xs i d) ≡ true
    all-place [] d i e h = absurd (omega arith)
    all-place (x ∷ xs) d zero e h = (and_true (f x) (all f xs) e).0
    all-place (x ∷ xs) d (suc i) e h = all-place xs d i (and_true (f x) (all f xs) e).1 (omega arith)

    pub place-all : (xs : List A) (d : A) → ((i : ℕ) → i < length xs → f (get_or xs i d) ≡ true) → all f xs ≡ true
    place-all [] d h = refl
    place-all (x ∷ xs) d h =
        true_and (f x) (all f xs) (h 0 (omega arith)) (place-all xs d (λ i k. h (suc i) (omega arith)))

    -- .. and past the end
    pub all_get_d : (xs : List A) (d : A) (i : ℕ) → all f xs ≡ true → f d ≡ true → f (get_or xs i d) ≡ true
    all_get_d [] d i e k = k
    all_get_d (x ∷ xs) d zero e k = (and_true (f x) (all f xs) e).0
    all_get_d (x ∷ xs) d (suc i) e k = all_get_d xs d i (and_true (f x) (all f xs) e).1 k

    -- of a part of the list, and where an element is replaced
    pub all_take : (n : ℕ) (xs : List A) → all f xs ≡ true → all f (take n xs) ≡ true
    all_take zero xs e = refl
    all_take (suc n) [] e = refl
    all_take (suc n) (x ∷ xs) e =
        let w = and_true (f x) (all f xs) e in
        true_and (f x) (all f (take n xs)) w.0 (all_take n xs w.1)

    pub all_drop : (n : ℕ) (xs : List A) → all f xs ≡ true → all f (drop n xs) ≡ true
    all_drop zero xs e = e
    all_drop (suc n) [] e = refl
    all_drop (suc n) (x ∷ xs) e = all_drop n xs (and_true (f x) (all f xs) e).1

    pub all-those : (g : A → Bool) (xs : List A) → all f xs ≡ true → all f (those g xs) ≡ true
    all-those g [] e = refl
    all-those g (x ∷ xs) e = go (g x) (and_true (f x) (all f xs) e) (all-those g xs)
      where
        go : (t : Bool) → (f x ≡ true) × (all f xs ≡ true) → (all f xs ≡ true → all f (those g xs) ≡ true)
            → all f (when t then x ∷ those g xs else those g xs) ≡ true
        go true w ih = true_and (f x) (all f (those g xs)) w.0 (ih w.1)
        go false w ih = ih w.1

    pub all_set : (xs : List A) (i : ℕ) (a : A) → all f xs ≡ true → f a ≡ true → all f (set xs i a) ≡ true
    all_set [] i a e k = refl
    all_set (x ∷ xs) zero a e k = true_and (f a) (all f xs) k (and_true (f x) (all f xs) e).1
    all_set (x ∷ xs) (suc i) a e k =
        let w = and_true (f x) (all f xs) e in
        true_and (f x) (all f (set xs i a)) w.0 (all_set xs i a w.1 k)

    pub all_replicate : (n : ℕ) (a : A) → f a ≡ true → all f (replicate n a) ≡ true
    all_replicate zero a k = refl
    all_replicate (suc n) a k = true_and (f a) (all f (replicate n a)) k (all_replicate n a k)

    pub all_weaker : (g : A → Bool) (xs : List A) → ((x : A) → f x ≡ true → g x ≡ true) → all f xs ≡ true → all g xs ≡ true
    all_weaker g [] h e = refl
    all_weaker g (x ∷ xs) h e =
        let w = and_true (f x) (all f xs) e in
        true_and (g x) (all g xs) (h x w.0) (all_weaker g xs h w.1)

pub all-up_from : (f : ℕ → Bool) (i m : ℕ) → ((j : ℕ) → i ≤ j → j < i + m → f j ≡ true) → all f (up_from i m) ≡ true
all-up_from f i zero h = refl
all-up_from f i (suc m) h =
    true_and (f i) (all f (up_from (suc i) m)) (h i (omega arith) (omega arith))
    (all-up_from f (suc i) m (λ j a b. h j (omega arith) (omega arith)))

pub up_from-all : (f : ℕ → Bool) (i m : ℕ) → all f (up_from i m) ≡ true → (k : ℕ) → i ≤ k → k < i + m → f k ≡ true
up_from-all f i zero e k h g = absurd (omega arith)
up_from-all f i (suc m) e k h g =
    let w = and_true (f i) (all f (up_from (suc i) m)) e in go (eqb i k) refl w.0 (up_from-all f (suc i) m w.1 k)
  where
    go : (t : Bool) → eqb i k ≡ t → f i ≡ true → (suc i ≤ k → k < suc i + m → f k ≡ true) → f k ≡ true
    go true q w ih = rw (eqb-true i k q) at w
    go false q w ih = let n = eqb-false i k q in ih (omega arith) (omega arith)

-- ---- none, or some

module _ {A : Type 0} (f : A → Bool) where
  pub count_of-none : (xs : List A) → eqb (count_of f xs) 0 ≡ not (some_of f xs)
  count_of-none [] = refl
  count_of-none (x ∷ xs) = go (f x) (count_of-none xs)
    where
      go : (t : Bool) → eqb (count_of f xs) 0 ≡ not (some_of f xs)
          → eqb (when t then suc (count_of f xs) else count_of f xs) 0 ≡ not (t || some_of f xs)
      go true ih = eqb-suc-zero (count_of f xs)
      go false ih = ih

  pub none_replicated : (n : ℕ) (a : A) → f a ≡ false → some_of f (replicate n a) ≡ false
  none_replicated zero a e = refl
  none_replicated (suc n) a e = rw (e, none_replicated n a e)

  pub some_of-joined : (xss : List (List A)) → some_of f (joined xss) ≡ some_of (some_of f) xss
  some_of-joined [] = refl
  some_of-joined (xs ∷ xss) = some_of_append f xs (joined xss) ∙ ap (λ t. some_of f xs || t) (some_of-joined xss)
