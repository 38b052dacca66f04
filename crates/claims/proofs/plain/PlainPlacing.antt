-- Steps 1 and 2 of a change in the plain store: held blocks keep their bytes, and the change's block holds its bytes.
use Prim.Native.Nat.{ℕ, ◌+◌, ◌<◌}
use mathlib.Core.Path.{◌≡◌, refl, ap, ◌∙◌, subst}
use mathlib.Core.Bool.{Bool, true, false}
use mathlib.Core.List.{List}
use mathlib.Core.Option.{Option, none, some}
use native.Mathlib.Omega.{arith}
use lib.Dec.{eqb}
use lib.ListN.{length, get_or, take, drop, set, length-take, length-drop, length-set}
use lib.Seq.{get_or-set_same, get_or-set_other, get_or-take, get_or-drop}
use borrow.Author.Tests.{eqb-true, eqb-false}
use Rattle.words.proofs.Accepted.{refused_not, accepted-same}
use Rattle.words.specs.Choice.{when◌then◌else◌}
use Rattle.words.specs.Lists.{place_from, or_else, same}
use Rattle.words.proofs.Same.{same_equal}
use Rattle.words.proofs.FoundPlaces.{place_found}
use Rattle.words.specs.Outcome.{refused, accepted}
use Rattle.runs.specs.Changes.{Change}
use Rattle.model.specs.Plain.{Block, free, held, is_free, bytes_of}
use Rattle.model.specs.PlainBackup.{PlainWork, PlainPlaced, has_print, find_held, find_free, take_block, place_free, place_held, place}
use Rattle.claims.proofs.plain.PlainShows.{held_bytes, shown_at}

-- ---- blocks, where held ones keep their bytes

pub record Grown (bs bs' : List Block) : Type 0 where
  pub long : length bs' ≡ length bs
  pub keeps : (p : ℕ) (b : List ℕ) → shown_at bs p ≡ some b → shown_at bs' p ≡ some b

pub grown-self : (bs : List Block) → Grown bs bs
grown-self bs = record { long = refl; keeps = λ p b e. e }

pub grown-then : {bs bs' bs'' : List Block} → Grown bs bs' → Grown bs' bs'' → Grown bs bs''
grown-then f g = record { long = g.long ∙ f.long; keeps = λ p b e. g.keeps p b (f.keeps p b e) }

-- ---- steps 1 and 2

print-held : (f : List ℕ) (b : Block) → has_print f b ≡ true → held_bytes b ≡ some (bytes_of b)
print-held f free e = cc
print-held f (held g b) e = refl

free-empty : (b : Block) → is_free b ≡ true → held_bytes b ≡ none
free-empty free e = refl
free-empty (held f b) e = cc

found-held : (bs : List Block) (f : List ℕ) (p : ℕ) → find_held bs f ≡ some p
    → (p < length bs) × (shown_at bs p ≡ some (bytes_of (get_or bs p free)))
unfolding find_held
found-held bs f p e =
    let r = place_found (has_print f) free 0 bs p e in
    let k : p ≡ r.index = omega arith in
    (omega arith, rw k (print-held f (get_or bs r.index free) r.passes))

found-free : (bs : List Block) (c p : ℕ) → find_free bs c ≡ some p → (p < length bs) × (shown_at bs p ≡ none)
unfolding find_free
found-free bs c p e = go (place_from c is_free (drop c bs)) refl e
  where
    go : (o : Option ℕ) → place_from c is_free (drop c bs) ≡ o → or_else o (place_from 0 is_free (take c bs)) ≡ some p
        → (p < length bs) × (shown_at bs p ≡ none)
    go (some q) h e' =
        let r = place_found is_free free c (drop c bs) q h in
        let k : p ≡ c + r.index = let z : q ≡ p = cc in omega arith in (
          omega (arith, length-drop c bs),
          rw (k, ← get_or-drop c bs r.index free)
              (free-empty (get_or (drop c bs) r.index free) r.passes),
        )
    go none h e' =
        let r = place_found is_free free 0 (take c bs) p e' in
        let k : p ≡ r.index = omega arith in
        let i : r.index < c = omega (arith, length-take c bs) in (
          omega (arith, length-take c bs),
          rw (k, ← get_or-take c bs r.index free i)
              (free-empty (get_or (take c bs) r.index free) r.passes),
        )

-- a change that found its block: only a free block is written, and block pbn holds the change's bytes
pub record PlacedFor (c : Change) (w : PlainWork) (d : PlainPlaced) : Type 0 where
  pub inside : d.pbn < length w.blocks
  pub copy : d.work.copy ≡ w.copy
  pub grown : Grown w.blocks d.work.blocks
  pub shows : shown_at d.work.blocks d.pbn ≡ some c.block

set_grown : (bs : List Block) (p : ℕ) (x : Block) → shown_at bs p ≡ none → Grown bs (set bs p x)
set_grown bs p x f = record { long = length-set bs p x; keeps = λ q b e. go q b e (eqb q p) refl }
  where
    go : (q : ℕ) (b : List ℕ) → shown_at bs q ≡ some b → (t : Bool) → eqb q p ≡ t → shown_at (set bs p x) q ≡ some b
    go q b e true h = let k = eqb-true q p h in cc
    go q b e false h = ap held_bytes (get_or-set_other bs p q x free (eqb-false q p h)) ∙ e

module _ (c : Change) (w : PlainWork) where
  take-placed : (p : ℕ) → find_free w.blocks w.cursor ≡ some p → PlacedFor c w (record { pbn = p; work = take_block c p w })
  unfolding take_block
  take-placed p e =
      let f = found-free w.blocks w.cursor p e in
      record {
        inside = f.0;
        copy = refl;
        grown = set_grown w.blocks p (held c.print c.block) f.1;
        shows = ap held_bytes (get_or-set_same w.blocks p (held c.print c.block) free f.0);
      }

  find-placed : (p : ℕ) → find_held w.blocks c.print ≡ some p → same (bytes_of (get_or w.blocks p free)) c.block ≡ true
      → PlacedFor c w (record { pbn = p; work = w })
  find-placed p e s =
      let f = found-held w.blocks c.print p e in
      record {
        inside = f.0;
        copy = refl;
        grown = grown-self w.blocks;
        shows = f.1 ∙ ap some (same_equal (bytes_of (get_or w.blocks p free)) c.block s);
      }

  module _ (d : PlainPlaced) where
    free-placed : (o : Option ℕ) → find_free w.blocks w.cursor ≡ o → place_free c w o ≡ accepted d → PlacedFor c w d
    unfolding place_free
    free-placed none e a = absurd (refused_not 12 d a)
    free-placed (some p) e a = subst (λ (x : PlainPlaced). PlacedFor c w x) (accepted-same _ d a) (take-placed p e)

    held-placed : (o : Option ℕ) → find_held w.blocks c.print ≡ o → place_held c w o ≡ accepted d → PlacedFor c w d
    unfolding place_held
    held-placed none e a = free-placed (find_free w.blocks w.cursor) refl a
    held-placed (some p) e a = go (same (bytes_of (get_or w.blocks p free)) c.block) refl a
      where
        go : (t : Bool) → same (bytes_of (get_or w.blocks p free)) c.block ≡ t
            → (when t then accepted (record { pbn = p; work = w }) else refused 11) ≡ accepted d → PlacedFor c w d
        go true s a = subst (λ (x : PlainPlaced). PlacedFor c w x) (accepted-same _ d a) (find-placed p e s)
        go false s a = absurd (refused_not 11 d a)

    pub place-placed : place c w ≡ accepted d → PlacedFor c w d
    unfolding place
    place-placed a = held-placed (find_held w.blocks c.print) refl a
