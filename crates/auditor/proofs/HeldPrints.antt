-- "held fingerprints differ", from the last block down: one turn more asks whether a block is apart from those above.
use Prim.Native.Nat.{ℕ, suc, ◌+◌, ◌≤◌, ◌<◌}
use mathlib.Core.Path.{◌≡◌, refl, sym}
use mathlib.Core.Bool.{Bool, true, false, not, ◌&&◌, ◌||◌}
use mathlib.Core.List.{List, [], ◌∷◌, map}
use native.Mathlib.Numerals.{add-one}
use lib.ListN.{length, drop, drop_of_length-le}
use lib.Seq.{drop-cons}
use Rattle.words.specs.Choice.{when◌then◌else◌}
use Rattle.words.proofs.ChoiceLaws.{and_yes, and_false, same_test}
use Rattle.words.specs.Lists.{all, some_of, those, same, differ}
use Rattle.words.proofs.Same.{same_self, same_equal}
use Rattle.book.specs.Book.{Entry, Book, free_entry, entry_at}
use Rattle.finder.specs.Bucket.{has_print, apart}
use Rattle.model.specs.Audit.{prints_sound}
use Rattle.claims.proofs.claims.AuditMeans.{held_prints}

-- the held fingerprints from block p on differ
unfoldable pub differ_from : List Entry → ℕ → Bool
differ_from es p = differ (held_prints (drop p es))

same-swap : (a b : List ℕ) → same a b ≡ same b a
same-swap a b =
    same_test (same a b) (same b a) (λ e. rw (same_equal a b e) (same_self b)) (λ e. rw (same_equal b a e) (same_self a))

-- no held entry has fingerprint f
none_has : (f : List ℕ) (es : List Entry) → all (λ y. not (same f y)) (held_prints es) ≡ not (some_of (has_print f) es)
unfolding has_print
none_has f [] = refl
none_has f (e ∷ es) = rw (same-swap e.print f) (go e.held (none_has f es))
  where
    neither : (s t : Bool) → (not s && not t) ≡ not (s || t)
    neither true t = refl
    neither false t = refl

    go : (t : Bool) → all (λ y. not (same f y)) (held_prints es) ≡ not (some_of (has_print f) es)
        → all (λ y. not (same f y)) (map (λ (e : Entry). e.print)
        (when t then e ∷ those (λ (e : Entry). e.held) es else those (λ (e : Entry). e.held) es))
        ≡ not ((t && same f e.print) || some_of (has_print f) es)
    go true ih = rw ih (neither (same f e.print) (some_of (has_print f) es))
    go false ih = ih

-- one entry more
more : (e : Entry) (es : List Entry)
    → differ (held_prints (e ∷ es)) ≡ (differ (held_prints es) && not (e.held && some_of (has_print e.print) es))
more e es = go e.held
  where
    swap : (s t : Bool) → (s && t) ≡ (t && s)
    swap true t = sym (and_yes t)
    swap false t = sym (and_false t)

    go : (t : Bool) → differ (map (λ (e : Entry). e.print)
        (when t then e ∷ those (λ (e : Entry). e.held) es else those (λ (e : Entry). e.held) es))
        ≡ (differ (held_prints es) && not (t && some_of (has_print e.print) es))
    go true = rw (none_has e.print es) (swap (not (some_of (has_print e.print) es)) (differ (held_prints es)))
    go false = sym (and_yes (differ (held_prints es)))

module _ (es : List Entry) where
  pub differ-none : (p : ℕ) → length es ≤ p → differ_from es p ≡ true
  unfolding differ_from
  differ-none p h = rw (drop_of_length-le es {i = p} h)

  pub differ-turn : (p : ℕ) (g : Bool) {t : Bool} → p < length es → g ≡ differ_from es (p + 1) → t ≡ apart es p → (g && t) ≡ differ_from es p
  unfolding differ_from apart
  differ-turn p g l e i = rw (e, i, add-one p, drop-cons es p free_entry l) (sym (more (entry_at es p) (drop (suc p) es)))

pub differ-all : (x : Book) → differ_from x.entries 0 ≡ prints_sound x
unfolding differ_from prints_sound
differ-all x = refl
