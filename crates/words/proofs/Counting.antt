-- How many elements pass a test: at most all, and after a store.
use Prim.Native.Nat.{ℕ, zero, suc, ◌+◌, ◌≤◌, ◌<◌}
use mathlib.Core.Path.{◌≡◌, refl}
use mathlib.Core.Bool.{Bool, true, false}
use mathlib.Core.List.{List, [], ◌∷◌}
use native.Mathlib.Omega.{arith}
use lib.ListN.{length, get_or, set}
use Rattle.words.proofs.Appends.{count_of_append}
use Rattle.words.specs.Choice.{when◌then◌else◌}
use Rattle.words.specs.Lists.{count_of, joined}
use Rattle.words.specs.Lists.{bit}

module _ {A : Type 0} (f : A → Bool) where
  count_cons : (x : A) (xs : List A) → count_of f (x ∷ xs) ≡ bit (f x) + count_of f xs
  count_cons x xs = go (f x)
    where
      go : (t : Bool) → (when t then suc (count_of f xs) else count_of f xs) ≡ bit t + count_of f xs
      go true = omega arith
      go false = omega arith

  pub count_most : (l : List A) → count_of f l ≤ length l
  count_most [] = omega arith
  count_most (x ∷ l) = omega (arith, count_cons x l, count_most l, bit-most (f x))
    where
      bit-most : (t : Bool) → bit t ≤ 1
      bit-most true = omega arith
      bit-most false = omega arith

  -- what the new element adds, the old one takes
  pub count_set : (l : List A) (i : ℕ) (b d : A) → i < length l → count_of f (set l i b) + bit (f (get_or l i d)) ≡ count_of f l + bit (f b)
  count_set [] i b d h = absurd (omega arith)
  count_set (x ∷ l) zero b d h = omega (arith, count_cons x l, count_cons b l)
  count_set (x ∷ l) (suc i) b d h = omega (arith, count_cons x (set l i b), count_cons x l, count_set l i b d (omega arith))

  -- an element that passes as the old one did changes nothing, and neither does one past the end
  pub count-set-kept : (l : List A) (i : ℕ) (b d : A) → f b ≡ f (get_or l i d) → count_of f (set l i b) ≡ count_of f l
  count-set-kept [] i b d e = refl
  count-set-kept (x ∷ l) zero b d e = rw e
  count-set-kept (x ∷ l) (suc i) b d e = rw (count-set-kept l i b d e)

  -- the same, of one of several lists
  pub count-joined : (ms : List (List A)) (v : ℕ) (m : List A) → v < length ms
      → count_of f (joined (set ms v m)) + count_of f (get_or ms v []) ≡ count_of f (joined ms) + count_of f m
  count-joined [] v m h = absurd (omega arith)
  count-joined (n ∷ ms) zero m h = omega (arith, count_of_append f m (joined ms), count_of_append f n (joined ms))
  count-joined (n ∷ ms) (suc v) m h =
      omega (arith, count_of_append f n (joined (set ms v m)), count_of_append f n (joined ms), count-joined ms v m (omega arith))
