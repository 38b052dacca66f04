-- Held fingerprints differ: a block taken for a fingerprint that no held block has keeps it so, and counts and expiries don't matter.
use Prim.Native.Nat.{ℕ, zero, suc, ◌<◌}
use mathlib.Core.Path.{◌≡◌, refl, sym, ap, ◌∙◌}
use mathlib.Core.Bool.{Bool, true, false, not, ◌&&◌}
use mathlib.Core.List.{List, [], ◌∷◌, map}
use mathlib.Core.Option.{none, some}
use native.Mathlib.Omega.{arith}
use lib.ListN.{length, set}
use Rattle.words.specs.Choice.{when◌then◌else◌}
use Rattle.words.proofs.ChoiceLaws.{and_true, true_and, same_test}
use Rattle.words.proofs.Options.{none_not}
use Rattle.words.specs.Lists.{all, those, place_from, same, differ}
use Rattle.words.proofs.Same.{same_self, same_equal}
use Rattle.book.specs.Book.{Entry, Book, entry_at}
use Rattle.book.specs.Next.{held_as}
use Rattle.model.specs.Audit.{prints_sound}
use Rattle.model.specs.Backup.{find_held}

-- the fingerprints of the held blocks, one block at a time
abbrev before : Bool → List ℕ → List (List ℕ) → List (List ℕ)
before t f fs = when t then f ∷ fs else fs

abbrev prints_of : List Entry → List (List ℕ)
prints_of [] = []
prints_of (e ∷ es) = before e.held e.print (prints_of es)

prints-are : (es : List Entry) → map (λ (e : Entry). e.print) (those (λ (e : Entry). e.held) es) ≡ prints_of es
prints-are [] = refl
prints-are (e ∷ es) = go e.held (prints-are es)
  where
    go : (t : Bool) → map (λ (e : Entry). e.print) (those (λ (e : Entry). e.held) es) ≡ prints_of es
        → map (λ (e : Entry). e.print) (when t then e ∷ those (λ (e : Entry). e.held) es else those (λ (e : Entry). e.held) es)
        ≡ before t e.print (prints_of es)
    go true ih = ap (λ (fs : List (List ℕ)). e.print ∷ fs) ih
    go false ih = ih

same-swap : (a b : List ℕ) → same a b ≡ same b a
same-swap a b = same_test (same a b) (same b a) (turn a b) (turn b a)
  where
    turn : (a b : List ℕ) → same a b ≡ true → same b a ≡ true
    turn a b e = rw (same_equal a b e) (same_self b)

-- ---- where the lookup finds nothing, the fingerprint is none of these

abbrev has_it : List ℕ → Entry → Bool
has_it f e = e.held && same e.print f

none-head : (f : List ℕ) (e : Entry) (i : ℕ) (es : List Entry) → place_from i (has_it f) (e ∷ es) ≡ none
    → (has_it f e ≡ false) × (place_from (suc i) (has_it f) es ≡ none)
none-head f e i es h = go (has_it f e) h
  where
    go : (t : Bool) → (when t then some i else place_from (suc i) (has_it f) es) ≡ none → (t ≡ false) × (place_from (suc i) (has_it f) es ≡ none)
    go true k = absurd (none_not i (sym k))
    go false k = (refl, k)

none-all : (f : List ℕ) (i : ℕ) (es : List Entry) → place_from i (has_it f) es ≡ none → all (λ y. not (same f y)) (prints_of es) ≡ true
none-all f i [] h = refl
none-all f i (e ∷ es) h = let n = none-head f e i es h in go e.held n.0 (none-all f (suc i) es n.1)
  where
    go : (t : Bool) → (t && same e.print f) ≡ false → all (λ y. not (same f y)) (prints_of es) ≡ true
        → all (λ y. not (same f y)) (before t e.print (prints_of es)) ≡ true
    go true k ih = rw (same-swap f e.print, k) ih
    go false k ih = ih

-- ---- one block more is held

module _ (f : List ℕ) where
  abbrev holding : List Entry → ℕ → List Entry
  holding es p = set es p (held_as f (entry_at es p))

  -- a test that the fingerprints pass, and the new one too
  all_held : (g : List ℕ → Bool) (es : List Entry) (p : ℕ) → p < length es → g f ≡ true → (entry_at es p).held ≡ false
      → all g (prints_of es) ≡ true → all g (prints_of (holding es p)) ≡ true
  unfolding held_as
  all_held g [] p h y k a = absurd (omega arith)
  all_held g (e ∷ es) zero h y k a = true_and (g f) (all g (prints_of es)) y (rw k at a)
  all_held g (e ∷ es) (suc p) h y k a = go e.held a (all_held g es p (omega arith) y k)
    where
      go : (t : Bool) → all g (before t e.print (prints_of es)) ≡ true
          → (all g (prints_of es) ≡ true → all g (prints_of (holding es p)) ≡ true)
          → all g (before t e.print (prints_of (holding es p))) ≡ true
      go true b ih =
          let c = and_true (g e.print) (all g (prints_of es)) b in
          true_and (g e.print) (all g (prints_of (holding es p))) c.0 (ih c.1)
      go false b ih = ih b

  differ-held : (i : ℕ) (es : List Entry) (p : ℕ) → p < length es → (entry_at es p).held ≡ false → place_from i (has_it f) es ≡ none
      → differ (prints_of es) ≡ true → differ (prints_of (holding es p)) ≡ true
  unfolding held_as
  differ-held i [] p h k n d = absurd (omega arith)
  differ-held i (e ∷ es) zero h k n d =
      true_and (all (λ y. not (same f y)) (prints_of es)) (differ (prints_of es))
      (none-all f (suc i) es (none-head f e i es n).1) (rw k at d)
  differ-held i (e ∷ es) (suc p) h k n d =
      let m = none-head f e i es n in
      go e.held m.0 d (differ-held (suc i) es p (omega arith) k m.1)
    where
      go : (t : Bool) → (t && same e.print f) ≡ false → differ (before t e.print (prints_of es)) ≡ true
          → (differ (prints_of es) ≡ true → differ (prints_of (holding es p)) ≡ true)
          → differ (before t e.print (prints_of (holding es p))) ≡ true
      go true a b ih =
          let c = and_true (all (λ y. not (same e.print y)) (prints_of es)) (differ (prints_of es)) b in
          true_and (all (λ y. not (same e.print y)) (prints_of (holding es p))) (differ (prints_of (holding es p)))
          (all_held (λ y. not (same e.print y)) es p (omega arith) (ap not a) k c.0) (ih c.1)
      go false a b ih = ih b

-- ---- what callers use

-- a book with other entries
pub prints-held : (x y : Book) (f : List ℕ) (p : ℕ) → p < length x.entries → (entry_at x.entries p).held ≡ false
    → find_held x.entries f ≡ none → y.entries ≡ set x.entries p (held_as f (entry_at x.entries p))
    → prints_sound x ≡ true → prints_sound y ≡ true
unfolding prints_sound find_held
prints-held x y f p h k n e d =
    rw (e, prints-are) (differ-held f 0 x.entries p h k n (rw prints-are at d))

prints-set : (es : List Entry) (b : ℕ) (x : Entry) → x.held ≡ (entry_at es b).held → x.print ≡ (entry_at es b).print
    → prints_of (set es b x) ≡ prints_of es
prints-set [] b x h k = refl
prints-set (e ∷ es) zero x h k = rw (h, k)
prints-set (e ∷ es) (suc b) x h k = rw (prints-set es b x h k)

pub prints-kept : (es : List Entry) (b : ℕ) (x : Entry) → x.held ≡ (entry_at es b).held → x.print ≡ (entry_at es b).print
    → map (λ (e : Entry). e.print) (those (λ (e : Entry). e.held) (set es b x))
    ≡ map (λ (e : Entry). e.print) (those (λ (e : Entry). e.held) es)
prints-kept es b x h k = prints-are (set es b x) ∙ prints-set es b x h k ∙ sym (prints-are es)
