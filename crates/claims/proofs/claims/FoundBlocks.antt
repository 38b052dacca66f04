-- What steps 1 and 2 find, for any number of blocks: the lowest-numbered held block with the fingerprint, and the free block that is met
-- first from the cursor up.
use Prim.Native.Nat.{ℕ, ◌+◌, ◌-◌, ◌≤◌, ◌<◌}
use mathlib.Core.Path.{◌≡◌, refl, sym, ◌∙◌}
use mathlib.Core.Bool.{Bool, true, false, ◌&&◌}
use mathlib.Core.List.{List}
use mathlib.Core.Option.{Option, none, some}
use native.Mathlib.Decide.{dec_lt}
use native.Mathlib.Omega.{arith}
use lib.ListN.{length, get_or, take, drop, length-take, length-drop}
use lib.Seq.{get_or-take, get_or-drop}
use borrow.Author.Tests.{not-true, not-false, le-leb, lt-leb}
use Rattle.words.proofs.ChoiceLaws.{and_true, not_both}
use Rattle.words.proofs.FoundPlaces.{place_found, place-first, place_none}
use Rattle.words.proofs.Options.{none_not, some_same}
use Rattle.words.specs.Lists.{place_from, or_else, same}
use Rattle.words.proofs.Same.{same_equal, same_self}
use Rattle.book.specs.Book.{Entry, entry_at, free_entry, is_free}
use Rattle.model.specs.Backup.{find_held, find_free}
use Rattle.claims.specs.Claims.{IsLowest, passed, IsNext}

-- ---- step 1

abbrev is_it : List ℕ → Entry → Bool
is_it f e = e.held && same e.print f

module _ (es : List Entry) (f : List ℕ) where
  other : (q : ℕ) → is_it f (entry_at es q) ≡ false → (entry_at es q).held ≡ true → (entry_at es q).print ≡ f → ⊥
  other q e h k = not_both (is_it f (entry_at es q)) (rw (h, k) (same_self f)) e

  pub held-lowest : (p : ℕ) → find_held es f ≡ some p → IsLowest es f p
  unfolding find_held
  held-lowest p e =
      let r = place_found (is_it f) free_entry 0 es p e in
      let k : r.index ≡ p = omega arith in
      let w = and_true (entry_at es r.index).held (same (entry_at es r.index).print f) r.passes in
      record {
        inside = omega arith;
        held = rw k at w.0;
        print = rw k at (same_equal (entry_at es r.index).print f w.1);
        lowest = λ q h. other q (place-first (is_it f) free_entry 0 es p e q (omega arith));
      }

  pub held_none : find_held es f ≡ none → (q : ℕ) → q < length es → (entry_at es q).held ≡ true → (entry_at es q).print ≡ f → ⊥
  unfolding find_held
  held_none e q h = other q (place_none (is_it f) free_entry 0 es e q h)

-- ---- step 2

passed-up : (n c q : ℕ) → c ≤ q → passed n c q ≡ q - c
unfolding passed
passed-up n c q h = rw (le-leb c q h)

passed-round : (n c q : ℕ) → q < c → passed n c q ≡ q + (n - c)
unfolding passed
passed-round n c q h = rw (lt-leb c q h)

module _ (es : List Entry) (c : ℕ) where
  abbrev up : Option ℕ
  up = place_from c is_free (drop c es)

  abbrev round : Option ℕ
  round = place_from 0 is_free (take c es)

  -- the blocks from the cursor up
  above : (q : ℕ) → c ≤ q → get_or (drop c es) (q - c) free_entry ≡ entry_at es q
  above q h = let k : c + (q - c) ≡ q = omega arith in get_or-drop c es (q - c) free_entry ∙ rw k

  up_first : (p : ℕ) → up ≡ some p → (q : ℕ) → c ≤ q → q < p → (entry_at es q).held ≡ true
  up_first p e q h k =
      not-false (entry_at es q).held
      (rw (above q h) at (place-first is_free free_entry c (drop c es) p e (q - c) (omega arith)))

  up_none : up ≡ none → (q : ℕ) → c ≤ q → q < length es → (entry_at es q).held ≡ true
  up_none e q h k =
      not-false (entry_at es q).held
      (rw (above q h) at (place_none is_free free_entry c (drop c es) e (q - c) (omega (arith, length-drop c es))))

  round-first : (p : ℕ) → round ≡ some p → (q : ℕ) → q < c → q < p → (entry_at es q).held ≡ true
  round-first p e q h k =
      not-false (entry_at es q).held
      (rw (get_or-take c es q free_entry h) at (place-first is_free free_entry 0 (take c es) p e q (omega arith)))

  round-none : round ≡ none → (q : ℕ) → q < c → q < length es → (entry_at es q).held ≡ true
  round-none e q h k =
      not-false (entry_at es q).held
      (rw (get_or-take c es q free_entry h) at
      (place_none is_free free_entry 0 (take c es) e q (omega (arith, length-take c es))))

  -- "no free block": every block is held
  pub free-none : find_free es c ≡ none → (q : ℕ) → q < length es → (entry_at es q).held ≡ true
  unfolding find_free
  free-none e q h = go up refl e (dec_lt q c)
    where
      go : (o : Option ℕ) → up ≡ o → or_else o round ≡ none → Dec (q < c) → (entry_at es q).held ≡ true
      go (some p) f e' d = absurd (none_not p (sym e'))
      go none f e' (yes k) = round-none e' q k h
      go none f e' (no k) = up_none f q (omega arith) h

  free_up : (p : ℕ) → up ≡ some p → IsNext es c p
  free_up p e =
      let r = place_found is_free free_entry c (drop c es) p e in
      let k : r.index ≡ p - c = omega arith in
      record {
        inside = omega (arith, length-drop c es);
        free = not-true (entry_at es p).held (rw (k, above p (omega arith)) at r.passes);
        first = λ q h f. first q h f (omega (arith, length-drop c es)) (dec_lt q c) (dec_lt q p);
      }
    where
      first : (q : ℕ) → q < length es → (entry_at es q).held ≡ false → (c ≤ p) × (p < length es) → Dec (q < c)
          → Dec (q < p) → passed (length es) c p ≤ passed (length es) c q
      first q h f k (yes a) d = omega (arith, passed-up (length es) c p k.0, passed-round (length es) c q a)
      first q h f k (no a) (yes b) = absurd (not_both (entry_at es q).held (up_first p e q (omega arith) b) f)
      first q h f k (no a) (no b) = omega (arith, passed-up (length es) c p k.0, passed-up (length es) c q (omega arith))

  free-round : (p : ℕ) → up ≡ none → round ≡ some p → IsNext es c p
  free-round p n e =
      let r = place_found is_free free_entry 0 (take c es) p e in
      let k : r.index ≡ p = omega arith in
      let l : p < c = omega (arith, length-take c es) in
      record {
        inside = omega (arith, length-take c es);
        free = not-true (entry_at es p).held (rw (k, get_or-take c es p free_entry l) at r.passes);
        first = λ q h f. first q h f l (dec_lt q c) (dec_lt q p);
      }
    where
      first : (q : ℕ) → q < length es → (entry_at es q).held ≡ false → p < c → Dec (q < c) → Dec (q < p)
          → passed (length es) c p ≤ passed (length es) c q
      first q h f k (no a) d = absurd (not_both (entry_at es q).held (up_none n q (omega arith) h) f)
      first q h f k (yes a) (yes b) = absurd (not_both (entry_at es q).held (round-first p e q a b) f)
      first q h f k (yes a) (no b) = omega (arith, passed-round (length es) c p k, passed-round (length es) c q a)

  pub free-next : (p : ℕ) → find_free es c ≡ some p → IsNext es c p
  unfolding find_free
  free-next p e = go up refl e
    where
      go : (o : Option ℕ) → up ≡ o → or_else o round ≡ some p → IsNext es c p
      go (some q) f e' = free_up p (rw (some_same q p e') at f)
      go none f e' = free-round p f e'
