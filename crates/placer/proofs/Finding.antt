-- The search for a free block, place by place, and what both searches of a backup find.
use Prim.Native.Nat.{ℕ, ◌+◌, ◌<◌}
use mathlib.Core.Path.{◌≡◌, refl}
use mathlib.Core.Bool.{true, false, ◌&&◌}
use mathlib.Core.List.{List}
use mathlib.Core.Option.{Option as Found, none, some}
use Rattle.std.specs.Prelude.{Option, Some, MatchOption}
use native.Mathlib.Omega.{arith}
use lib.ListN.{length, take, drop, length-take, length-drop}
use lib.Seq.{get_or-take, get_or-drop}
use borrow.Author.Tests.{not-true}
use Rattle.words.proofs.ChoiceLaws.{and_true}
use Rattle.words.proofs.FoundPlaces.{place_found}
use Rattle.words.specs.Lists.{or_else, same, place_from}
use Rattle.words.specs.declared.PBN.{PBN}
use Rattle.book.specs.Book.{Entry, free_entry, entry_at, is_free}
use Rattle.model.specs.Backup.{find_held, find_free}
use Rattle.finder.specs.Answers.{found_of}
use Rattle.placer.specs.Search.{place_in}
use Rattle.placer.proofs.SearchLaws.{place_up, place-below}

-- found from the cursor up, or only below it
module _ (es : List Entry) (c : ℕ) where
  free_search : find_free es c ≡ or_else (place_in is_free es c (length es)) (place_in is_free es 0 c)
  unfolding find_free
  free_search = rw (place_up is_free es c, place-below is_free es c)

  -- `round` says what the search below the cursor found
  pub free-found : (up found : Option PBN) (round : Type 0) → up ≡ found_of (place_in is_free es c (length es))
      → (round → found ≡ found_of (place_in is_free es 0 c)) → MatchOption up round (λ p. found ≡ Some p)
      → found ≡ found_of (find_free es c)
  free-found up found round e below h = rw free_search (go (place_in is_free es c (length es)) (rw e at h))
    where
      go : (o : Found ℕ) → MatchOption (found_of o) round (λ p. found ≡ Some p)
          → found ≡ found_of (or_else o (place_in is_free es 0 c))
      go (some q) h = h
      go none h = below h

-- ---- what is found

pub found-held : (es : List Entry) (f : List ℕ) (p : ℕ) → find_held es f ≡ some p → (p < length es) × ((entry_at es p).held ≡ true)
unfolding find_held
found-held es f p e =
    let r = place_found (λ (e : Entry). e.held && same e.print f) free_entry 0 es p e in
    let k : p ≡ r.index = omega arith in
    (omega arith, rw k (and_true (entry_at es r.index).held (same (entry_at es r.index).print f) r.passes).0)

pub found-free : (es : List Entry) (c p : ℕ) → find_free es c ≡ some p → (p < length es) × ((entry_at es p).held ≡ false)
unfolding find_free
found-free es c p e = go (place_from c is_free (drop c es)) refl e
  where
    go : (o : Found ℕ) → place_from c is_free (drop c es) ≡ o → or_else o (place_from 0 is_free (take c es)) ≡ some p
        → (p < length es) × ((entry_at es p).held ≡ false)
    go (some q) h e' =
        let r = place_found is_free free_entry c (drop c es) q h in
        let k : p ≡ c + r.index = let z : q ≡ p = cc in omega arith in
        (omega (arith, length-drop c es), rw (k, ← get_or-drop c es r.index free_entry) (not-true _ r.passes))
    go none h e' =
        let r = place_found is_free free_entry 0 (take c es) p e' in
        let k : p ≡ r.index = omega arith in (
          omega (arith, length-take c es),
          rw
              (k, ← get_or-take c es r.index free_entry (omega (arith, length-take c es))) (not-true _ r.passes),
        )
