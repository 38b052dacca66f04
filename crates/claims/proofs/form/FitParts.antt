-- A fit book by its parts: of each list the length, and a test that all its elements pass.
use Prim.Native.Nat.{ℕ, ◌≤◌, ◌<◌}
use mathlib.Core.Path.{◌≡◌}
use mathlib.Core.Bool.{Bool, true, ◌&&◌}
use mathlib.Core.List.{List, []}
use lib.Dec.{eqb}
use lib.ListN.{length, get_or}
use borrow.Author.Tests.{eqb-true, eq-eqb}
use Rattle.words.specs.Blocks.{print_size}
use Rattle.words.proofs.ChoiceLaws.{and_true, true_and}
use Rattle.words.specs.Lists.{all}
use Rattle.words.proofs.Places.{all-place, place-all, all_weaker}
use Rattle.book.specs.Book.{volumes, Sizes, Entry, Book, free_entry, entry_at, Sized}
use Rattle.book.specs.Form.{sizes_ok, retention_ok, entry_ok, pbn_ok, rec_ok, afters_ok, slot_ok, days_ok, pairs_ok}
use Rattle.book.specs.FormFacts.{BookParts}
use Rattle.book.proofs.Clauses.{book-parts, parts-book}
use Rattle.claims.proofs.agreement.Agree.{Fit}

-- an entry in form with a whole fingerprint
unfoldable pub entry_fit : Entry → Bool
entry_fit e = entry_ok e && eqb (length e.print) print_size

-- a map in form with L cells
unfoldable pub map_fit : Sizes → List ℕ → Bool
map_fit z m = all (pbn_ok z.n) m && eqb (length m) z.l

pub record FitParts (x : Book) : Type 0 where
  pub sizes : sizes_ok x.sizes ≡ true
  pub day : x.day ≤ 60000
  pub cursor : x.cursor < x.sizes.n
  pub retention_count : length x.retentions ≡ volumes
  pub retentions : all retention_ok x.retentions ≡ true
  pub entry_count : length x.entries ≡ x.sizes.n
  pub entries : all entry_fit x.entries ≡ true
  pub map_count : length x.maps ≡ volumes
  pub maps : all (map_fit x.sizes) x.maps ≡ true
  pub slot_count : length x.slots ≤ x.sizes.s
  pub slots : all (slot_ok x) x.slots ≡ true
  pub days : days_ok x.slots ≡ true
  pub pairs : pairs_ok 0 x.slots (length x.records) ≡ true
  pub record_count : length x.records ≤ x.sizes.j
  pub records : all (rec_ok x.sizes) x.records ≡ true
  pub afters : afters_ok x.slots x.records ≡ true

-- ---- one way

sized-entries : (x : Book) → Sized x → all entry_ok x.entries ≡ true → all entry_fit x.entries ≡ true
unfolding entry_fit
sized-entries x s e =
    place-all entry_fit x.entries free_entry (λ p h.
    true_and (entry_ok (entry_at x.entries p)) (eqb (length (entry_at x.entries p).print) print_size)
    (all-place entry_ok x.entries free_entry p e h)
    (eq-eqb (length (entry_at x.entries p).print) print_size (s.prints p (rw s.entries at h))))

sized-maps : (x : Book) → Sized x → all (all (pbn_ok x.sizes.n)) x.maps ≡ true → all (map_fit x.sizes) x.maps ≡ true
unfolding map_fit
sized-maps x s e =
    place-all (map_fit x.sizes) x.maps [] (λ v h.
    true_and (all (pbn_ok x.sizes.n) (get_or x.maps v [])) (eqb (length (get_or x.maps v [])) x.sizes.l)
    (all-place (all (pbn_ok x.sizes.n)) x.maps [] v e h)
    (eq-eqb (length (get_or x.maps v [])) x.sizes.l (s.cells v (rw s.maps at h))))

pub fit_parts : {x : Book} → Fit x → FitParts x
fit_parts {x} f =
    let p = book-parts x f.form in
    record {
      sizes = f.sizes;
      day = p.day;
      cursor = p.cursor;
      retention_count = f.sized.retentions;
      retentions = p.retentions;
      entry_count = f.sized.entries;
      entries = sized-entries x f.sized p.entries;
      map_count = f.sized.maps;
      maps = sized-maps x f.sized p.maps;
      slot_count = f.sized.slots;
      slots = p.slots;
      days = p.days;
      pairs = p.pairs;
      record_count = f.sized.records;
      records = p.records;
      afters = p.afters;
    }

-- ---- the other way

module _ {x : Book} (p : FitParts x) where
  parts-print : (q : ℕ) → q < x.sizes.n → length (entry_at x.entries q).print ≡ print_size
  unfolding entry_fit
  parts-print q h =
      let e = entry_at x.entries q in
      eqb-true (length e.print) print_size
      (and_true (entry_ok e) (eqb (length e.print) print_size)
      (all-place entry_fit x.entries free_entry q p.entries (rw p.entry_count h))).1

  parts-cells : (v : ℕ) → v < volumes → length (get_or x.maps v []) ≡ x.sizes.l
  unfolding map_fit
  parts-cells v h =
      let m = get_or x.maps v [] in
      eqb-true (length m) x.sizes.l
      (and_true (all (pbn_ok x.sizes.n) m) (eqb (length m) x.sizes.l)
      (all-place (map_fit x.sizes) x.maps [] v p.maps (rw p.map_count h))).1

  parts-sized : Sized x
  parts-sized = record {
    retentions = p.retention_count;
    entries = p.entry_count;
    prints = parts-print;
    maps = p.map_count;
    cells = parts-cells;
    slots = p.slot_count;
    records = p.record_count;
  }

  parts_tests : BookParts x
  unfolding entry_fit map_fit
  parts_tests = record {
    day = p.day;
    cursor = p.cursor;
    retentions = p.retentions;
    entries =
        all_weaker entry_fit entry_ok x.entries (λ e k. (and_true (entry_ok e) (eqb (length e.print) print_size) k).0) p.entries;
    maps =
        all_weaker (map_fit x.sizes) (all (pbn_ok x.sizes.n)) x.maps
        (λ m k. (and_true (all (pbn_ok x.sizes.n) m) (eqb (length m) x.sizes.l) k).0) p.maps;
    slots = p.slots;
    days = p.days;
    pairs = p.pairs;
    records = p.records;
    afters = p.afters;
  }

  pub parts-fit : Fit x
  parts-fit = record { sized = parts-sized; sizes = p.sizes; form = parts-book x parts_tests }
