-- Collect keeps both sides alike: the same number, the same freed, and entries freed exactly where the plain store doesn't mark.
use Prim.Native.Nat.{ℕ, ◌+◌, ◌≤◌, ◌<◌}
use mathlib.Core.Path.{◌≡◌, refl, sym, ap, ◌∙◌}
use mathlib.Core.Bool.{Bool, true, false, not, not-not}
use mathlib.Core.List.{List, map}
use native.Mathlib.Nat.{zero-add}
use native.Mathlib.Omega.{arith}
use lib.Dec.{ltb, eqb}
use lib.ListN.{length}
use borrow.Author.Tests.{eqb-true, ltb-true, lt-leb}
use Rattle.words.proofs.ChoiceLaws.{and_true, not_both}
use Rattle.words.proofs.Places.{get_d_map}
use Rattle.book.specs.Book.{Book, Entry, free_entry, entry_at, is_free}
use Rattle.book.specs.Next.{with_day, with_entries}
use Rattle.model.specs.Journal.{journal}
use Rattle.model.specs.Audit.{no_maps, until_in, prints_sound}
use Rattle.model.specs.Collect.{collect_number, is_over, swept_entry, collected}
use Rattle.claims.proofs.claims.CollectLaws.{collect-days, over-was-held}
use Rattle.model.specs.Plain
use Rattle.model.specs.Plain.{Plain, marked, swept, swept_count}
use Rattle.claims.proofs.agreement.Agree.{Fit, Agree, named, reaches}
use Rattle.claims.proofs.kept.JournalLaws.{days-later, until_in-book}
use Rattle.claims.proofs.kept.Reaches.{reached-earlier}
use Rattle.claims.proofs.kept.Marks.{expiry-reaches, over-marked}
use Rattle.claims.proofs.agreement.Sweep.{over-held, after-count, after-expiry, after-held, swept-blocks, swept-count, after-differ}

module _ {x : Book} {pool : List ℕ} {q : Plain} (g : Agree x pool q) where
  pub collect-number : (t : ℕ) → collect_number x t ≡ Plain.collect_number q t
  unfolding collect_number Plain.collect_number
  collect-number t = rw g.day

  -- the test of each held entry
  pub over-entry : (t p : ℕ) → x.day ≤ t → p < x.sizes.n → (entry_at x.entries p).held ≡ true
      → is_over t (entry_at x.entries p) ≡ not (marked q t p)
  over-entry t p late h k = over-held t (entry_at x.entries p) k ∙ over-marked g t p late h k

  over-place : (t j : ℕ) → x.day ≤ t → j < length x.entries → (entry_at x.entries j).held ≡ true
      → is_over t (entry_at x.entries j) ≡ not (marked q t (0 + j))
  over-place t j late h k = rw zero-add (over-entry t j late (rw g.fit.sized.entries at h) k)

  pub collect-freed : (t : ℕ) → collect_number x t ≡ 0 → (collected x t).freed ≡ (Plain.collected q t).freed
  unfolding collected Plain.collected
  collect-freed t ok =
      sym (ap (swept_count (marked q t) 0) g.blocks ∙ swept-count (marked q t) t 0 x.entries pool (λ j. over-place t j ((collect-days x t).0 ok).0))

  entry-after : (t p : ℕ) → p < x.sizes.n → entry_at (map (swept_entry t) x.entries) p ≡ swept_entry t (entry_at x.entries p)
  entry-after t p h = get_d_map (swept_entry t) x.entries p free_entry free_entry (rw g.fit.sized.entries h)

  -- document 01: "a block held in our book before is free after exactly when no current map and no backup kept at T .. points to it"
  pub freeing : (t p : ℕ) → collect_number x t ≡ 0 → p < x.sizes.n → (entry_at x.entries p).held ≡ true
      → is_free (entry_at (collected x t).book.entries p) ≡ not (marked q t p)
  unfolding collected with_day with_entries
  freeing t p ok h k = rw (entry-after t p h, after-held, k, over-entry t p ((collect-days x t).0 ok).0 h k) (not-not (not (marked q t p)))

  count-after : (t p : ℕ) → p < x.sizes.n → (entry_at (map (swept_entry t) x.entries) p).count ≡ named x p
  count-after t p h = ap (λ (e : Entry). e.count) (entry-after t p h) ∙ after-count t (entry_at x.entries p) ∙ g.counts p h

  expiry-after : (t p : ℕ) → p < x.sizes.n → (entry_at (map (swept_entry t) x.entries) p).expiry ≡ until_in x p (journal x)
  expiry-after t p h = ap (λ (e : Entry). e.expiry) (entry-after t p h) ∙ after-expiry t (entry_at x.entries p) ∙ g.expiries p h

  held_after : (t p : ℕ) → p < x.sizes.n → (entry_at (map (swept_entry t) x.entries) p).held ≡ true → (entry_at x.entries p).held ≡ true
  held_after t p h k =
      (and_true (entry_at x.entries p).held (not (is_over t (entry_at x.entries p)))
      (sym (after-held t (entry_at x.entries p)) ∙ ap (λ (e : Entry). e.held) (sym (entry-after t p h)) ∙ k)).0

  -- a freed block was named by no map, and its expiry was before the day
  over-free : (t p : ℕ) → x.day ≤ t → p < x.sizes.n → is_over t (entry_at x.entries p) ≡ true → (named x p ≡ 0) × (reaches x t p ≡ false)
  over-free t p late h o =
      let e = entry_at x.entries p in
      let w = and_true (eqb e.count 0) (ltb e.expiry t) (sym (over-held t e (over-was-held t e o)) ∙ o) in
      let l = ltb-true e.expiry t w.1 in
      (sym (g.counts p h) ∙ eqb-true e.count 0 w.0, sym (expiry-reaches g t p late (omega arith) h) ∙ lt-leb t e.expiry l)

  free-after : (t p : ℕ) → x.day ≤ t → p < x.sizes.n → (entry_at (map (swept_entry t) x.entries) p).held ≡ false
      → (named x p ≡ 0) × (reaches x t p ≡ false)
  unfolding reaches
  free-after t p late h k = go (entry_at x.entries p).held (is_over t (entry_at x.entries p)) refl refl
    where
      go : (a o : Bool) → (entry_at x.entries p).held ≡ a → is_over t (entry_at x.entries p) ≡ o
          → (named x p ≡ 0) × (reaches x t p ≡ false)
      go a true e f = over-free t p late h f
      go false false e f = let w = g.free p h e in (w.0, reached-earlier x x.day t p (journal x) late w.1)
      go true false e f =
          let a : (swept_entry t (entry_at x.entries p)).held ≡ true = rw (after-held, e, f) in
          absurd (not_both (swept_entry t (entry_at x.entries p)).held a (ap (λ (e : Entry). e.held) (sym (entry-after t p h)) ∙ k))

  pub collect-agree : (t : ℕ) → collect_number x t ≡ 0 → Fit (collected x t).book
      → Agree (collected x t).book pool (Plain.collected q t).store
  unfolding collected with_day with_entries Plain.collected Plain.at_day Plain.with_blocks journal no_maps named reaches prints_sound
  collect-agree t ok fit = record {
    fit = fit;
    pool_long = g.pool_long;
    sizes = g.sizes;
    day = refl;
    cursor = g.cursor;
    blocks = ap (swept (marked q t) 0) g.blocks ∙ swept-blocks (marked q t) t 0 x.entries pool (λ j. over-place t j ((collect-days x t).0 ok).0);
    retentions = g.retentions;
    taken = g.taken;
    maps = g.maps;
    sound = g.sound;
    days = days-later 0 x.day t (journal x) g.days ((collect-days x t).0 ok).0;
    rising = g.rising;
    emptied = g.emptied;
    counts = count-after t;
    expiries = λ p h. expiry-after t p h ∙ sym (until_in-book x (collected x t).book p (journal x) refl);
    used = λ first p h k. let late = ((collect-days x t).0 ok).0 in g.used (omega arith) p h (held_after t p h k);
    free = λ p h k. free-after t p ((collect-days x t).0 ok).0 h k;
    prints = after-differ t x.entries g.prints;
  }
