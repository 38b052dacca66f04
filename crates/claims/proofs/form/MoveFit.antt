-- Steps 3 and 4 of a change keep entries, maps and records in form.
use Prim.Native.Nat.{ℕ, suc, ◌≤◌, ◌<◌}
use mathlib.Core.Path.{◌≡◌, refl, ap, subst, ◌∙◌}
use mathlib.Core.Logic.{◌≢◌}
use mathlib.Core.Bool.{Bool, true, false, not, ◌&&◌}
use mathlib.Core.List.{List, [], ◌∷◌, ◌++◌}
use native.Mathlib.Omega.{arith}
use lib.Dec.{ltb, eqb}
use lib.ListN.{length, get_or, set, drop, length-append, length-set}
use lib.Seq.{take-append-le, drop-append-le}
use borrow.Author.Tests.{eqb-true, eqb-false, lt-ltb, eq-eqb, ne_eqb}
use Rattle.words.proofs.Accepted.{unless-accepted}
use Rattle.words.proofs.Appends.{all_append}
use Rattle.words.specs.Blocks.{unmapped}
use Rattle.words.specs.Choice.{when◌then◌else◌}
use Rattle.words.proofs.ChoiceLaws.{and_true, true_and, or_l}
use Rattle.words.specs.Lists.{all}
use Rattle.words.specs.Outcome.{accepted}
use Rattle.words.proofs.Places.{all-place, all_get_d, all_set}
use Rattle.book.specs.Book.{volumes, Sizes, Entry, Rec, Book, entry_at, cell_at}
use Rattle.book.specs.Form.{pbn_ok, rec_ok, after_ok}
use Rattle.book.specs.Next.{cells_with, with_entries, with_maps, with_record, count_as, expiry_as}
use Rattle.model.specs.Backup.{Work, Placed, lowered, lower, raised, name_block, move_number, moved, move_to}
use Rattle.claims.proofs.form.Bounds.{unmapped-ok}
use Rattle.claims.proofs.form.EntriesFit.{entry-fit, fit-expiry, fit-print, counted-held, held-fit}
use Rattle.claims.proofs.form.FitParts.{entry_fit, map_fit}
use Rattle.claims.proofs.agreement.Moving.{length-lower, lower-kept}
use Rattle.claims.proofs.form.WorkFit.{WorkFit, PlacedFit}

-- ---- entries

-- numbers 13 and 14, passed
move-passed : (until before p : ℕ) (es : List Entry) → move_number until before p es ≡ 0 → before ≢ unmapped → (entry_at es before).count ≢ 0
unfolding move_number
move-passed until before p es e mapped =
    go (eqb before unmapped) (eqb (entry_at es before).count 0) (eqb (entry_at (lower until before es) p).count 65535) refl refl e
  where
    go : (a b c : Bool) → eqb before unmapped ≡ a → eqb (entry_at es before).count 0 ≡ b
        → ◌≡◌ {A = ℕ} (when not a && b then 13 else when c then 14 else 0) 0 → (entry_at es before).count ≢ 0
    go true b c f g e = absurd (mapped (eqb-true before unmapped f))
    go false true c f g e = absurd (omega arith)
    go false false c f g e = eqb-false (entry_at es before).count 0 g

module _ (until before : ℕ) (es : List Entry) where
  lower-held : (q : ℕ) → (entry_at (lower until before es) q).held ≡ (entry_at es q).held
  unfolding lowered count_as expiry_as
  lower-held = lower-kept until before es (λ (e : Entry). e.held) (λ e. refl)

  -- a before whose count isn't 0 is held, and until is 65,000 at most
  pub lower-fit : until ≤ 65000 → all entry_fit es ≡ true → (before ≢ unmapped → (entry_at es before).count ≢ 0)
      → all entry_fit (lower until before es) ≡ true
  unfolding lower lowered count_as expiry_as
  lower-fit low f some = go (eqb before unmapped) refl
    where
      e : Entry
      e = entry_at es before

      fit : entry_fit e ≡ true
      fit = entry-fit es before f

      go : (t : Bool) → eqb before unmapped ≡ t → all entry_fit (when t then es else set es before (lowered until e)) ≡ true
      go true k = f
      go false k =
          all_set entry_fit es before (lowered until e) f
          (held-fit (lowered until e) (omega (arith, fit-expiry e fit)) (fit-print e fit)
          (counted-held e fit (some (eqb-false before unmapped k))))

raise-fit : (es : List Entry) (p : ℕ) → all entry_fit es ≡ true → (entry_at es p).held ≡ true
    → all entry_fit (set es p (raised (entry_at es p))) ≡ true
unfolding raised count_as
raise-fit es p f h =
    let fit = entry-fit es p f in
    all_set entry_fit es p (raised (entry_at es p)) f
    (held-fit (raised (entry_at es p)) (fit-expiry (entry_at es p) fit) (fit-print (entry_at es p) fit) h)

-- ---- maps and records

module _ (z : Sizes) (ms : List (List ℕ)) (v : ℕ) (inside : v < length ms) (f : all (map_fit z) ms ≡ true) where
  pub row-fit : (all (pbn_ok z.n) (get_or ms v []) ≡ true) × (length (get_or ms v []) ≡ z.l)
  unfolding map_fit
  row-fit =
      let w = and_true (all (pbn_ok z.n) (get_or ms v [])) (eqb (length (get_or ms v [])) z.l) (all-place (map_fit z) ms [] v f inside) in
      (w.0, eqb-true (length (get_or ms v [])) z.l w.1)

  pub cell-ok : (l : ℕ) → pbn_ok z.n (cell_at ms v l) ≡ true
  cell-ok l = all_get_d (pbn_ok z.n) (get_or ms v []) unmapped l row-fit.0 (unmapped-ok z.n)

  pub cells_fit : (l p : ℕ) → pbn_ok z.n p ≡ true → all (map_fit z) (cells_with ms v l p) ≡ true
  unfolding map_fit
  cells_fit l p h =
      let row = set (get_or ms v []) l p in
      all_set (map_fit z) ms v row f
      (true_and (all (pbn_ok z.n) row) (eqb (length row) z.l)
      (all_set (pbn_ok z.n) (get_or ms v []) l p row-fit.0 h)
      (eq-eqb (length row) z.l (length-set (get_or ms v []) l p ∙ row-fit.1)))

pub record-ok : (z : Sizes) (r : Rec) → r.lbn < z.l → pbn_ok z.n r.before ≡ true → pbn_ok z.n r.after ≡ true → rec_ok z r ≡ true
unfolding rec_ok
record-ok z r low old new =
    true_and (ltb r.lbn z.l && pbn_ok z.n r.before) (pbn_ok z.n r.after)
    (true_and (ltb r.lbn z.l) (pbn_ok z.n r.before) (lt-ltb r.lbn z.l low) old)
    new

-- a backup's after is mapped
after_mapped : (n : ℕ) (r : Rec) → n ≤ 4096 → r.after < n → after_ok false r ≡ true
unfolding after_ok
after_mapped n r few h = ap not (ne_eqb r.after unmapped (λ e. omega arith))

pbn-inside : (n p : ℕ) → p < n → pbn_ok n p ≡ true
unfolding pbn_ok
pbn-inside n p h = or_l (ltb p n) (eqb p unmapped) (lt-ltb p n h)

pub records-more : (z : Sizes) (rs : List Rec) (r : Rec) → all (rec_ok z) rs ≡ true → rec_ok z r ≡ true → all (rec_ok z) (rs ++ (r ∷ [])) ≡ true
records-more z rs r f g = all_append (rec_ok z) rs (r ∷ []) ∙ rw (f, g)

-- ---- both steps

module _ (x : Book) (k v until lbn before : ℕ) (inside : v < volumes) (low : until ≤ 65000) (below : lbn < x.sizes.l) (d : Placed)
    (f : PlacedFit x k d) where
  abbrev es : List Entry
  es = d.work.book.entries

  abbrev added : Rec
  added = record { lbn = lbn; before = cell_at d.work.book.maps v lbn; after = d.pbn }

  moved_fit : (before ≢ unmapped → (entry_at d.work.book.entries before).count ≢ 0) → WorkFit x (suc k) (moved v until lbn before d)
  unfolding moved name_block with_record with_maps with_entries
  moved_fit some =
      let w = f.work in
      let n : v < length d.work.book.maps = rw w.map_count inside in
      record {
        few = w.few;
        sizes = w.sizes;
        retentions = w.retentions;
        slots = w.slots;
        cursor = w.cursor;
        entry_count = length-set (lower until before es) d.pbn _ ∙ length-lower until before es ∙ w.entry_count;
        entries =
            raise-fit (lower until before es) d.pbn (lower-fit until before es low w.entries some)
            (lower-held until before es d.pbn ∙ f.holds);
        map_count = length-set d.work.book.maps v _ ∙ w.map_count;
        maps = cells_fit x.sizes d.work.book.maps v n w.maps lbn d.pbn (pbn-inside x.sizes.n d.pbn f.inside);
        record_count = length-append d.work.book.records (added ∷ []) ∙ omega (arith, w.record_count);
        records =
            records-more x.sizes d.work.book.records added w.records
            (record-ok x.sizes added below (cell-ok x.sizes d.work.book.maps v n w.maps lbn) (pbn-inside x.sizes.n d.pbn f.inside));
        given = take-append-le (length x.records) d.work.book.records (added ∷ []) (omega (arith, w.record_count)) ∙ w.given;
        afters =
            ap (all (after_ok false)) (drop-append-le (length x.records) d.work.book.records (added ∷ []) (omega (arith, w.record_count)))
            ∙ all_append (after_ok false) (drop (length x.records) d.work.book.records) (added ∷ [])
            ∙ rw (w.afters, after_mapped x.sizes.n added w.few f.inside);
        pool = w.pool;
      }

  pub move-fit : (w : Work) → move_to v until lbn before d ≡ accepted w → WorkFit x (suc k) w
  unfolding move_to
  move-fit w e =
      let q = unless-accepted (move_number until before d.pbn es) (accepted (moved v until lbn before d)) w e in
      subst (WorkFit x (suc k)) (cc q.1) (moved_fit (move-passed until before d.pbn es q.0))
