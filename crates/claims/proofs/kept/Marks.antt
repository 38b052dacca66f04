-- Collect's test and the plain store's mark: a held block has count 0 and an expiry before the day exactly when no current map and no
-- backup kept on that day names it.
use Prim.Native.Nat.{ℕ, zero, suc, ◌≤◌, ◌<◌}
use mathlib.Core.Path.{◌≡◌, refl, sym, ap, ◌∙◌}
use mathlib.Core.Logic.{◌≢◌}
use mathlib.Core.Bool.{Bool, true, false, not, ◌&&◌, ◌||◌}
use mathlib.Core.List.{List, []}
use native.Mathlib.Omega.{arith}
use lib.Dec.{leb, ltb, eqb, leb-zero}
use lib.ListN.{get_or}
use borrow.Author.Tests.{eqb-true, leb-true, leb-false, lt-ltb, le-ltb}
use Rattle.words.specs.Blocks.{unmapped}
use Rattle.words.proofs.ChoiceLaws.{same_test, not_both}
use Rattle.words.specs.Lists.{some_of, joined, up_from}
use Rattle.words.proofs.Places.{place-some, count_of-none, some_of-joined}
use Rattle.book.specs.Book.{volumes, Book, entry_at, cell_at, retention_of}
use Rattle.book.specs.Form.{sizes_ok}
use Rattle.book.proofs.SizesIn.{sizes-facts}
use Rattle.model.specs.Journal.{journal, slots_in}
use Rattle.model.specs.Audit.{no_maps}
use Rattle.model.specs.Plain.{Plain, retention_at, taken_of, names, kept_names, marked, no_map}
use Rattle.claims.proofs.agreement.Agree.{Agree, named, reaches}
use Rattle.claims.proofs.kept.TakenLaws.{some-volume, volume-some}
use Rattle.claims.proofs.kept.Replays.{slots_in-days, backups-linked}
use Rattle.claims.proofs.agreement.AgreeLaws.{length-no_maps, sounds_agree, taken-agree, emptied_agree, map-after, maps-agree, retention-agree}
use Rattle.claims.proofs.kept.KeptCells.{kept_at, taken_at, kept-cell}
use Rattle.claims.proofs.kept.KeptNames.{cell-names, kept-names-cell, cell-kept-names}
use Rattle.claims.proofs.kept.Reaches.{reaches_by, until-reaches, taken-reaches, reaches-taken}
use Rattle.claims.proofs.kept.TakenIn.{kept_taken_in}

-- counts and names
pub named_none : (x : Book) (p : ℕ) → eqb (named x p) 0 ≡ not (some_of (names p) x.maps)
unfolding named
named_none x p = count_of-none (eqb p) (joined x.maps) ∙ ap not (some_of-joined (eqb p) x.maps)

ltb_not_nat_le : (a b : ℕ) → ltb a b ≡ not (leb b a)
ltb_not_nat_le a b = go (leb b a) refl
  where
    go : (t : Bool) → leb b a ≡ t → ltb a b ≡ not t
    go true e = le-ltb a b (leb-true b a e)
    go false e = lt-ltb a b (leb-false b a e)

-- "N pool blocks, 1 to 4,096"
pub pbn_mapped : (x : Book) (p : ℕ) → sizes_ok x.sizes ≡ true → p < x.sizes.n → p ≢ unmapped
pbn_mapped x p ok h q = omega (arith, (sizes-facts x.sizes ok).n)

-- a backup of the volume that is kept on day d names p
abbrev kept_in : Plain → ℕ → ℕ → ℕ → Bool
kept_in q p d v = kept_names p (retention_at q v) d (taken_of v q.taken)

module _ {x : Book} {pool : List ℕ} {q : Plain} (g : Agree x pool q) where
  -- a volume's kept backups at one LBN, by the book alone
  pub kept-cell-agree : (d p v l : ℕ) → p ≢ unmapped → v < volumes
      → kept_at p (retention_of x v) d l (taken_of v q.taken)
      ≡ (eqb p (cell_at x.maps v l) || taken_at p (retention_of x v) d l (slots_in v (journal x)))
  kept-cell-agree d p v l n h =
      ap (kept_at p (retention_of x v) d l) (taken-agree g v h)
      ∙ kept_taken_in p (retention_of x v) d l x.sizes.l (no_map x.sizes) (slots_in v (journal x)) n (emptied_agree g v h)
      ∙ rw (map-after g v h)
      (kept-cell p (retention_of x v) d l x.sizes.l x.day (slots_in v (journal x)) n (sounds_agree g v h)
      (slots_in-days v 0 x.day (journal x) g.days) (backups-linked x v))

  -- a cell of a current map, where no current map names p
  unnamed-cell : (p v l : ℕ) → p ≢ unmapped → v < volumes → some_of (names p) x.maps ≡ false → eqb p (cell_at x.maps v l) ≡ false
  unnamed-cell p v l n h e = go (eqb p (cell_at x.maps v l)) refl
    where
      go : (t : Bool) → eqb p (cell_at x.maps v l) ≡ t → t ≡ false
      go true f =
          let named = place-some (names p) x.maps [] v (rw g.fit.sized.maps h) (cell-names p l (get_or x.maps v []) n f) in
          absurd (not_both (some_of (names p) x.maps) named e)
      go false f = refl

  kept-taken : (d p v l : ℕ) → p ≢ unmapped → v < volumes → some_of (names p) x.maps ≡ false
      → kept_at p (retention_of x v) d l (taken_of v q.taken) ≡ taken_at p (retention_of x v) d l (slots_in v (journal x))
  kept-taken d p v l n h e = kept-cell-agree d p v l n h ∙ rw (unnamed-cell p v l n h e)

  kept_here : (d p v : ℕ) → kept_in q p d v ≡ kept_names p (retention_of x v) d (taken_of v q.taken)
  kept_here d p v = ap (λ (r : ℕ). kept_names p r d (taken_of v q.taken)) (retention-agree g v)

  pub kept-reaches : (d p : ℕ) → p ≢ unmapped → some_of (names p) x.maps ≡ false → some_of (kept_in q p d) (up_from 0 volumes) ≡ reaches x d p
  unfolding reaches
  kept-reaches d p n e = same_test (some_of (kept_in q p d) (up_from 0 volumes)) (some_of (reaches_by x d p) (journal x)) to from
    where
      to : some_of (kept_in q p d) (up_from 0 volumes) ≡ true → some_of (reaches_by x d p) (journal x) ≡ true
      to f =
          let w = some-volume (kept_in q p d) f in
          let k = kept-names-cell p (retention_of x w.0) d (taken_of w.0 q.taken) (sym (kept_here d p w.0) ∙ w.2) in
          taken-reaches x d p w.0 k.0 (journal x) (sym (kept-taken d p w.0 k.0 n w.1 e) ∙ k.1)

      from : some_of (reaches_by x d p) (journal x) ≡ true → some_of (kept_in q p d) (up_from 0 volumes) ≡ true
      from f =
          let w = reaches-taken x d p (no_maps x) (journal x) g.sound g.rising f in
          let h : w.0 < volumes = rw length-no_maps at w.1 in
          let k = kept-taken d p w.0 w.2.0 n h e ∙ w.2.1 in
          volume-some (kept_in q p d) w.0 h
          (kept_here d p w.0 ∙ cell-kept-names p (retention_of x w.0) d w.2.0 (taken_of w.0 q.taken) n k)

  -- All that proofs say of an expiry: whether it reaches a day, from the header's on
  pub expiry-reaches : (t p : ℕ) → x.day ≤ t → 0 < t → p < x.sizes.n → leb t (entry_at x.entries p).expiry ≡ reaches x t p
  unfolding reaches
  expiry-reaches t p late later h = ap (leb t) (g.expiries p h) ∙ until-reaches x t p (journal x) later

  -- .. and on day 0, of a held block that no map names
  reached : (t p : ℕ) → x.day ≤ t → p < x.sizes.n → (entry_at x.entries p).held ≡ true → named x p ≡ 0
      → leb t (entry_at x.entries p).expiry ≡ reaches x t p
  reached zero p late h k e = leb-zero (entry_at x.entries p).expiry ∙ sym (g.used (omega arith) p h k e)
  reached (suc t) p late h k e = expiry-reaches (suc t) p late (omega arith) h

  -- document 01, "Collect": "each held block with count 0 and expiry < T", and the plain store's "marks each block in a current or kept
  -- map"
  pub over-marked : (t p : ℕ) → x.day ≤ t → p < x.sizes.n → (entry_at x.entries p).held ≡ true
      → (eqb (entry_at x.entries p).count 0 && ltb (entry_at x.entries p).expiry t) ≡ not (marked q t p)
  unfolding marked
  over-marked t p late h k = rw (g.counts p h, named_none x p, maps-agree g) (go (some_of (names p) x.maps) refl)
    where
      expiry : ℕ
      expiry = (entry_at x.entries p).expiry

      go : (s : Bool) → some_of (names p) x.maps ≡ s → (not s && ltb expiry t) ≡ not (s || some_of (kept_in q p t) (up_from 0 volumes))
      go true e = refl
      go false e =
          ltb_not_nat_le expiry t
          ∙ ap not (reached t p late h k (eqb-true (named x p) 0 (named_none x p ∙ ap not e))
          ∙ sym (kept-reaches t p (pbn_mapped x p g.fit.sizes h) e))
