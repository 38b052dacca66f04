-- A book whose expiries are worked out afresh (document 02, K4): every other field is equal, and it is in form where the book was.
use Prim.Native.Nat.{ℕ, ◌≤◌, ◌<◌, max}
use mathlib.Core.Path.{◌≡◌, refl, sym, ap, ◌∙◌}
use mathlib.Core.Bool.{Bool, true, false, ◌&&◌, ◌||◌}
use mathlib.Core.List.{List, [], ◌∷◌}
use mathlib.Core.Option.{some}
use native.Mathlib.Decide.{dec_lt}
use native.Mathlib.Omega.{arith}
use lib.Dec.{leb, eqb}
use lib.ListN.{length, take, drop, get_or-eq_default}
use borrow.Author.Tests.{leb-true, le-leb}
use Rattle.words.proofs.ChoiceLaws.{and_true, true_and}
use Rattle.words.proofs.Each.{tab-each, at_each}
use Rattle.words.proofs.Places.{all_get_d}
use Rattle.words.proofs.SectionLaws.{length-tab, get_or-tab}
use Rattle.words.specs.Choice.{when◌then◌else◌}
use Rattle.words.specs.Lists.{all, all_zero}
use Rattle.words.specs.Sections.{tab}
use Rattle.book.proofs.Conditions.{slot-facts}
use Rattle.book.proofs.Clauses.{book-parts, parts-book}
use Rattle.book.specs.Book.{Entry, Slot, Rec, Book, Sized, no_print, free_entry, entry_at, retention_of}
use Rattle.book.specs.Form.{retention_ok, entry_ok, slot_ok}
use Rattle.book.specs.FormFacts.{BookParts}
use Rattle.book.specs.Next.{with_layout, with_entries, expiry_as}
use Rattle.model.specs.Audit.{has_before, due_of, until_in}
use Rattle.model.specs.Convert.{refreshed_entry, refreshed}
use Rattle.model.specs.Journal.{Backup, last_day, since_of, journal_of, journal}
use Rattle.claims.proofs.form.ConvertFit.{Keeps}
use Rattle.claims.proofs.kept.JournalLaws.{until_in-book}

-- ---- every other field

-- y is x but for the entries' expiries
pub record AllButExpiries (x y : Book) : Type 0 where
  pub sizes : y.sizes ≡ x.sizes
  pub day : y.day ≡ x.day
  pub cursor : y.cursor ≡ x.cursor
  pub retentions : y.retentions ≡ x.retentions
  pub maps : y.maps ≡ x.maps
  pub slots : y.slots ≡ x.slots
  pub records : y.records ≡ x.records
  pub entry_count : length y.entries ≡ length x.entries
  pub counts : (p : ℕ) → (entry_at y.entries p).count ≡ (entry_at x.entries p).count
  pub states : (p : ℕ) → (entry_at y.entries p).held ≡ (entry_at x.entries p).held
  pub prints : (p : ℕ) → (entry_at y.entries p).print ≡ (entry_at x.entries p).print

module _ (x : Book) where
  refreshed-at : (p : ℕ) → p < x.sizes.n → entry_at (refreshed x).entries p ≡ refreshed_entry x p
  unfolding refreshed with_entries
  refreshed-at p h = get_or-tab x.sizes.n (refreshed_entry x) p free_entry h

  refreshed-count : length (refreshed x).entries ≡ x.sizes.n
  unfolding refreshed with_entries
  refreshed-count = length-tab x.sizes.n (refreshed_entry x)

  -- "each expiry" is what audit asks for
  pub expiry-fresh : (p : ℕ) → p < x.sizes.n → (entry_at (refreshed x).entries p).expiry ≡ until_in x p (journal x)
  unfolding refreshed_entry expiry_as
  expiry-fresh p h = ap (λ (e : Entry). e.expiry) (refreshed-at p h)

  module _ (s : Sized x) where
    -- what an expiry doesn't change
    entry-same : {A : Type 0} (f : Entry → A) → ((d : ℕ) (e : Entry) → f (expiry_as d e) ≡ f e) → (p : ℕ)
        → f (entry_at (refreshed x).entries p) ≡ f (entry_at x.entries p)
    unfolding refreshed_entry
    entry-same f same p = go (dec_lt p x.sizes.n)
      where
        go : Dec (p < x.sizes.n) → f (entry_at (refreshed x).entries p) ≡ f (entry_at x.entries p)
        go (yes h) = ap f (refreshed-at p h) ∙ same (until_in x p (journal x)) (entry_at x.entries p)
        go (no h) =
            ap f (get_or-eq_default (refreshed x).entries free_entry {n = p} (omega (arith, refreshed-count))
            ∙ sym (get_or-eq_default x.entries free_entry {n = p} (omega (arith, s.entries))))

    pub refreshed-others : AllButExpiries x (refreshed x)
    unfolding refreshed with_entries expiry_as
    refreshed-others = record {
      sizes = refl;
      day = refl;
      cursor = refl;
      retentions = refl;
      maps = refl;
      slots = refl;
      records = refl;
      entry_count = refreshed-count ∙ sym s.entries;
      counts = entry-same (λ e. e.count) (λ d e. refl);
      states = entry-same (λ e. e.held) (λ d e. refl);
      prints = entry-same (λ e. e.print) (λ d e. refl);
    }

-- it doesn't look at the layout number
pub refreshed-layout : (g : ℕ) (x : Book) → refreshed (with_layout g x) ≡ with_layout g (refreshed x)
unfolding refreshed refreshed_entry with_entries with_layout journal
refreshed-layout g x = λ i.
    with_layout g (with_entries (tab x.sizes.n (λ p. expiry_as (until_in-book x (with_layout g x) p (journal x) refl i) (entry_at x.entries p))) x)

-- ---- in form: a slot's day is 60,000 at most, a retention 5,000

module _ (x : Book) (parts : BookParts x) where
  last-low : (v : ℕ) (ts : List Slot) → all (slot_ok x) ts ≡ true → since_of (last_day v ts) ≤ x.day
  last-low v [] ok = omega arith
  last-low v (t ∷ ts) ok =
      let w = and_true (slot_ok x t) (all (slot_ok x) ts) ok in
      go (eqb t.volume v) (leb-true t.day x.day (slot-facts x t w.0).1)
      (last-low v ts w.1)
    where
      go : (own : Bool) → t.day ≤ x.day → since_of (last_day v ts) ≤ x.day
          → since_of (when own then some t.day else last_day v ts) ≤ x.day
      go true h ih = h
      go false h ih = ih

  due-low : (b : Backup) → since_of b.prev ≤ x.day → due_of (retention_of x b.volume) b ≤ 65000
  unfolding retention_ok
  due-low b h =
      omega (
        arith,
        parts.day,
        leb-true (retention_of x b.volume) 5000 (all_get_d retention_ok x.retentions 0 b.volume parts.retentions refl),
      )

  until-low : (p : ℕ) (gone ts : List Slot) (rs : List Rec) → all (slot_ok x) gone ≡ true → all (slot_ok x) ts ≡ true
      → until_in x p (journal_of gone ts rs) ≤ 65000
  until-low p gone [] rs g ok = omega arith
  until-low p gone (t ∷ ts) rs g ok =
      let w = and_true (slot_ok x t) (all (slot_ok x) ts) ok in
      let b : Backup = record { volume = t.volume; day = t.day; retire = t.retire; prev = last_day t.volume gone; records = take t.number rs } in
      go (has_before p b.records) (due-low b (last-low t.volume gone g))
      (until-low p (t ∷ gone) ts (drop t.number rs) (true_and (slot_ok x t) (all (slot_ok x) gone) w.0 g) w.1)
    where
      go : (has : Bool) {due rest : ℕ} → due ≤ 65000 → rest ≤ 65000 → max (when has then due else 0) rest ≤ 65000
      go true h k = omega arith
      go false h k = omega arith

  entry-ok : (p : ℕ) → entry_ok (refreshed_entry x p) ≡ true
  unfolding refreshed_entry expiry_as entry_ok journal free_entry no_print
  entry-ok p =
      let e = entry_at x.entries p in
      let used = e.held || (eqb e.count 0 && all_zero e.print) in
      let old = all_get_d entry_ok x.entries free_entry p parts.entries refl in
      true_and (leb (until_in x p (journal x)) 65000) used
      (le-leb (until_in x p (journal x)) 65000 (until-low p [] x.slots x.records refl parts.slots))
      (and_true (leb e.expiry 65000) used old).1

pub keeps-refreshed : Keeps refreshed
unfolding Keeps refreshed with_entries slot_ok
keeps-refreshed x s e =
    let p = book-parts x e in
    let o = refreshed-others x s in (
      record {
        retentions = s.retentions;
        entries = o.entry_count ∙ s.entries;
        prints = λ q h. ap length (o.prints q) ∙ s.prints q h;
        maps = s.maps;
        cells = s.cells;
        slots = s.slots;
        records = s.records;
      },
      refl,
      parts-book (refreshed x) (record {
        day = p.day;
        cursor = p.cursor;
        retentions = p.retentions;
        entries =
            tab-each entry_ok x.sizes.n (refreshed_entry x)
            ∙ at_each (λ q. entry_ok (refreshed_entry x q)) 0 x.sizes.n (λ q lo hi. entry-ok x p q);
        maps = p.maps;
        slots = p.slots;
        days = p.days;
        pairs = p.pairs;
        records = p.records;
        afters = p.afters;
      }),
    )
