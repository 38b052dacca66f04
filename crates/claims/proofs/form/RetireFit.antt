-- An accepted retirement leaves a fit book of the same sizes.
use Prim.Native.Nat.{ℕ, zero, suc, ◌+◌, ◌≤◌, ◌<◌}
use mathlib.Core.Path.{◌≡◌, refl, sym, ap, subst, ◌∙◌}
use mathlib.Core.Logic.{◌≢◌}
use mathlib.Core.Bool.{Bool, true, false, not}
use mathlib.Core.List.{List, [], ◌∷◌, ◌++◌}
use native.Mathlib.Nat.{le_trans, zero-add}
use native.Mathlib.Omega.{arith}
use lib.Dec.{leb, eqb}
use lib.ListN.{length, get_or, set, drop, take, replicate, length-append, length-drop, length-set, length-replicate, take-append-drop}
use lib.Seq.{get_or-set_same, get_or-set_other, take-length, drop-length, take-append-le, drop-append-le, ext_get_or}
use borrow.Author.Tests.{eqb-true, eqb-false, ne_eqb}
use Rattle.words.proofs.Accepted.{unless-accepted, then-accepted, accepted-same}
use Rattle.words.specs.Blocks.{unmapped}
use Rattle.words.specs.Choice.{when◌then◌else◌}
use Rattle.words.proofs.Appends.{all_append}
use Rattle.words.proofs.ChoiceLaws.{true_and}
use Rattle.words.proofs.Counting.{count_set}
use Rattle.words.proofs.Places.{get_or_replicated}
use Rattle.words.specs.Lists.{all, count_of, last_of, bit, up_from}
use Rattle.words.specs.Outcome.{accepted, and_then, unless}
use Rattle.book.specs.Book.{volumes, Slot, Rec, Book, entry_at, cell_at}
use Rattle.book.specs.Form.{rec_ok, after_ok, afters_ok, enrolled, slot_ok}
use Rattle.book.specs.Next.{cells_with, with_day, with_slot, with_entries, with_maps, with_record}
use Rattle.book.proofs.SizesIn.{sizes-facts}
use Rattle.model.specs.Backup.{until_next}
use Rattle.model.specs.Journal.{days}
use Rattle.model.specs.Retire.{mapped_cells, retire_number, clear_number, cleared, clear_cell, clear_cells, Retired, retired, retire}
use Rattle.claims.proofs.agreement.Agree.{Fit}
use Rattle.claims.proofs.agreement.AgreeLaws.{volume-inside}
use Rattle.claims.proofs.agreement.Clearing.{is_mapped, empty-more, none_mapped}
use Rattle.claims.proofs.agreement.Moving.{length-lower}
use Rattle.claims.proofs.form.BackupFit.{volume-enrolled}
use Rattle.claims.proofs.form.Bounds.{unmapped-ok}
use Rattle.claims.proofs.form.FitParts.{entry_fit, map_fit, fit_parts, parts-fit}
use Rattle.claims.proofs.form.MoveFit.{lower-fit, row-fit, cell-ok, cells_fit, record-ok, records-more}
use Rattle.claims.proofs.form.RetireAllowed.{MayRetire, may_retire}
use Rattle.claims.proofs.form.RunFit.{until-low}
use Rattle.claims.proofs.form.SlotsFit.{slot_ok_lem, slots_kept, days-more, slots-before, afters-more, pairs-more}
use Rattle.claims.proofs.kept.DayLaws.{last-before}

-- volume v's cells before LBN k were cleared from the book x
pub record ClearFit (x : Book) (v k : ℕ) (y : Book) : Type 0 where
  pub sizes : y.sizes ≡ x.sizes
  pub retentions : y.retentions ≡ x.retentions
  pub slots : y.slots ≡ x.slots
  pub cursor : y.cursor ≡ x.cursor
  pub entry_count : length y.entries ≡ x.sizes.n
  pub entries : all entry_fit y.entries ≡ true
  pub map_count : length y.maps ≡ volumes
  pub maps : all (map_fit x.sizes) y.maps ≡ true
  pub empty : (l : ℕ) → l < k → cell_at y.maps v l ≡ unmapped
  pub many : length y.records + count_of is_mapped (get_or y.maps v []) ≡ length x.records + mapped_cells x v
  pub records : all (rec_ok x.sizes) y.records ≡ true
  -- those that were there, and behind them those of the retirement
  pub enough : length x.records ≤ length y.records
  pub given : take (length x.records) y.records ≡ x.records
  pub outs : all (after_ok true) (drop (length x.records) y.records) ≡ true

module _ (x : Book) (v until : ℕ) (inside : v < volumes) (low : until ≤ 65000) where
  module _ (k : ℕ) (below : k < x.sizes.l) (y : Book) (f : ClearFit x v k y) where
    abbrev before : ℕ
    before = cell_at y.maps v k

    there : v < length y.maps
    there = rw f.map_count inside

    wide : length (get_or y.maps v []) ≡ x.sizes.l
    wide = (row-fit x.sizes y.maps v there f.maps).1

    pass : before ≡ unmapped → ClearFit x v (suc k) y
    pass e = record {
      sizes = f.sizes;
      retentions = f.retentions;
      slots = f.slots;
      cursor = f.cursor;
      entry_count = f.entry_count;
      entries = f.entries;
      map_count = f.map_count;
      maps = f.maps;
      empty = empty-more k (get_or y.maps v []) e f.empty;
      many = f.many;
      records = f.records;
      enough = f.enough;
      given = f.given;
      outs = f.outs;
    }

    abbrev rec : Rec
    rec = record { lbn = k; before = before; after = unmapped }

    new_row : get_or (cells_with y.maps v k unmapped) v [] ≡ set (get_or y.maps v []) k unmapped
    new_row = get_or-set_same y.maps v (set (get_or y.maps v []) k unmapped) [] there

    many-next : before ≢ unmapped → length (y.records ++ (rec ∷ [])) + count_of is_mapped (get_or (cells_with y.maps v k unmapped) v [])
        ≡ length x.records + mapped_cells x v
    many-next mapped =
        omega (
          arith,
          length-append y.records (rec ∷ []),
          ap (λ (m : List ℕ). count_of is_mapped m) new_row,
          count_set is_mapped (get_or y.maps v []) k unmapped unmapped (omega (arith, wide)),
          ap (λ (t : Bool). bit (not t)) (ne_eqb before unmapped mapped),
          f.many,
        )

    clear_next : before ≢ unmapped → (entry_at y.entries before).count ≢ 0 → ClearFit x v (suc k) (cleared v until k before y)
    unfolding cleared with_record with_maps with_entries after_ok
    clear_next mapped some = record {
      sizes = f.sizes;
      retentions = f.retentions;
      slots = f.slots;
      cursor = f.cursor;
      entry_count = length-lower until before y.entries ∙ f.entry_count;
      entries = lower-fit until before y.entries low f.entries (λ n. some);
      map_count = length-set y.maps v (set (get_or y.maps v []) k unmapped) ∙ f.map_count;
      maps = cells_fit x.sizes y.maps v there f.maps k unmapped (unmapped-ok x.sizes.n);
      empty = subst (λ (m : List ℕ). (l : ℕ) → l < suc k → get_or m l unmapped ≡ unmapped) (sym new_row)
          (empty-more k (set (get_or y.maps v []) k unmapped) (get_or-set_same (get_or y.maps v []) k unmapped unmapped (omega (arith, wide)))
          (λ l h. get_or-set_other (get_or y.maps v []) k l unmapped unmapped (λ (e : l ≡ k). omega arith) ∙ f.empty l h));
      many = many-next mapped;
      records =
          records-more x.sizes y.records rec f.records
          (record-ok x.sizes rec below (cell-ok x.sizes y.maps v there f.maps k) (unmapped-ok x.sizes.n));
      enough = omega (arith, f.enough, length-append y.records (rec ∷ []));
      given = take-append-le (length x.records) y.records (rec ∷ []) f.enough ∙ f.given;
      outs =
          ap (all (after_ok true)) (drop-append-le (length x.records) y.records (rec ∷ []) f.enough)
          ∙ all_append (after_ok true) (drop (length x.records) y.records) (rec ∷ [])
          ∙ rw f.outs;
    }

    clear-fit : (z : Book) → clear_cell v until k before y ≡ accepted z → ClearFit x v (suc k) z
    unfolding clear_cell clear_number
    clear-fit z e = go (eqb before unmapped) refl e
      where
        go : (t : Bool) → eqb before unmapped ≡ t
            → (when t then accepted y else unless (clear_number y before) (accepted (cleared v until k before y))) ≡ accepted z
            → ClearFit x v (suc k) z
        go true q e = subst (ClearFit x v (suc k)) (accepted-same y z e) (pass (eqb-true before unmapped q))
        go false q e =
            let w = unless-accepted (clear_number y before) (accepted (cleared v until k before y)) z e in
            subst (ClearFit x v (suc k)) (accepted-same (cleared v until k before y) z w.1)
            (clear_next (eqb-false before unmapped q) (counted (eqb (entry_at y.entries before).count 0) refl w.0))
          where
            counted : (t : Bool) → eqb (entry_at y.entries before).count 0 ≡ t → ◌≡◌ {A = ℕ} (when t then 13 else 0) 0
                → (entry_at y.entries before).count ≢ 0
            counted true g w = absurd (omega arith)
            counted false g w = eqb-false (entry_at y.entries before).count 0 g

  clears_fit : (m k : ℕ) (y z : Book) → k + m ≡ x.sizes.l → ClearFit x v k y → clear_cells v until (up_from k m) y ≡ accepted z
      → ClearFit x v x.sizes.l z
  clears_fit zero k y z h f e =
      subst (λ (n : ℕ). ClearFit x v n z) (omega arith) (subst (ClearFit x v k) (accepted-same y z e) f)
  clears_fit (suc m) k y z h f e =
      let p = then-accepted (clear_cell v until k (cell_at y.maps v k) y) (λ w. clear_cells v until (up_from (suc k) m) w) z e in
      clears_fit m (suc k) p.0 z (omega arith) (clear-fit k (omega arith) y f p.0 p.1) p.2

-- ---- the slot is added

module _ {x : Book} (fit : Fit x) (v t : ℕ) (ok : MayRetire x v t) (w : Book) (f : ClearFit x v x.sizes.l w) where
  abbrev slot : Slot
  slot = record { volume = v; retire = true; day = t; first = length x.records; number = mapped_cells x v }

  abbrev y : Book
  y = (retired x v t w).book

  own : v < volumes
  own = volume-inside x v ok.volume

  own-there : v < length w.maps
  own-there = rw f.map_count own

  -- no cell is left
  new-count : length w.records ≡ length x.records + mapped_cells x v
  new-count =
      let wide = (row-fit x.sizes w.maps v own-there f.maps).1 in
      let none : get_or w.maps v [] ≡ replicate x.sizes.l unmapped =
      ext_get_or unmapped (get_or w.maps v []) (replicate x.sizes.l unmapped) (wide ∙ sym (length-replicate x.sizes.l unmapped))
      (λ l h. f.empty l (omega (arith, wide)) ∙ sym (get_or_replicated x.sizes.l unmapped l)) in
      omega (arith, f.many, ap (λ (m : List ℕ). count_of is_mapped m) none, none_mapped x.sizes.l)

  enrolled-kept : (u : ℕ) → enrolled x u ≡ true → enrolled y u ≡ true
  unfolding retired with_day with_slot
  enrolled-kept u e = rw f.retentions e

  layout-three : leb 3 y.sizes.layout ≡ true
  unfolding retired with_day with_slot
  layout-three = rw (f.sizes, (sizes-facts x.sizes fit.sizes).layout)

  slots-after : all (slot_ok y) (x.slots ++ (slot ∷ [])) ≡ true
  unfolding retired with_day with_slot
  slots-after =
      all_append (slot_ok y) x.slots (slot ∷ [])
      ∙ true_and (all (slot_ok y) x.slots) (all (slot_ok y) (slot ∷ []))
      (slots_kept x y x.slots enrolled-kept ok.day (ap (λ z. z.layout) f.sizes) (fit_parts fit).slots)
      (true_and (slot_ok y slot) true
      (slot_ok_lem y slot (enrolled-kept v (volume-enrolled x v ok.volume)) (omega arith) (rw layout-three))
      refl)

  afters-after : afters_ok (w.slots ++ (slot ∷ [])) w.records ≡ true
  afters-after =
      let u = length x.records in
      let new : length (drop u w.records) ≡ mapped_cells x v = length-drop u w.records ∙ omega (arith, new-count) in
      let whole : w.records ≡ x.records ++ drop u w.records =
      sym (take-append-drop u w.records) ∙ ap (λ (rs : List Rec). rs ++ drop u w.records) f.given in
      rw f.slots
      (ap (afters_ok (x.slots ++ (slot ∷ []))) whole
      ∙ afters-more 0 x.slots x.records slot (drop u w.records) (rw zero-add (fit_parts fit).pairs) new (fit_parts fit).afters f.outs)

  retired-fit : Fit y
  unfolding retired with_day with_slot
  retired-fit =
      let p = fit_parts fit in
      let n = ap (λ z. z.n) f.sizes in
      let s = ap (λ z. z.s) f.sizes in
      let j = ap (λ z. z.j) f.sizes in
      let many = length-append w.slots (slot ∷ []) in
      let before = ap length f.slots in
      parts-fit (record {
        sizes = rw f.sizes p.sizes;
        day = ok.last;
        cursor = rw (f.cursor, n) p.cursor;
        retention_count = rw f.retentions p.retention_count;
        retentions = rw f.retentions p.retentions;
        entry_count = f.entry_count ∙ sym n;
        entries = f.entries;
        map_count = f.map_count;
        maps = rw f.sizes f.maps;
        slot_count = omega (arith, ok.slots);
        slots = ap (λ (ts : List Slot). all (slot_ok y) (ts ++ (slot ∷ []))) f.slots ∙ slots-after;
        days = rw f.slots (days-more x.slots slot p.days (slots-before x slot p.days ok.living ok.after p.slots ok.day));
        pairs = rw (f.slots, new-count) (pairs-more 0 x.slots (length x.records) slot p.pairs refl);
        record_count = omega (arith, new-count, ok.records);
        records = rw f.sizes f.records;
        afters = afters-after;
      })

-- ---- the whole call

pub record RetiredFit (x : Book) (d : Retired) : Type 0 where
  pub fit : Fit d.book
  pub sizes : d.book.sizes ≡ x.sizes

start-clear : {x : Book} → Fit x → (v : ℕ) → ClearFit x v 0 x
unfolding mapped_cells
start-clear {x} fit v =
    let p = fit_parts fit in
    record {
      sizes = refl;
      retentions = refl;
      slots = refl;
      cursor = refl;
      entry_count = p.entry_count;
      entries = p.entries;
      map_count = p.map_count;
      maps = p.maps;
      empty = λ l h. absurd (omega arith);
      many = refl;
      records = p.records;
      enough = omega arith;
      given = take-length x.records;
      outs = ap (all (after_ok true)) (drop-length x.records);
    }

pub retire-fit : {x : Book} → Fit x → (v t : ℕ) (d : Retired) → retire x v t ≡ accepted d → RetiredFit x d
unfolding retire retired with_day with_slot
retire-fit {x} fit v t d e =
    let o = clear_cells v (until_next x v) (up_from 0 x.sizes.l) x in
    let a = unless-accepted (retire_number x v t) (and_then o (λ w. accepted (retired x v t w))) d e in
    let p = then-accepted o (λ w. accepted (retired x v t w)) d a.1 in
    let ok = may_retire x v t a.0 in
    let f =
    clears_fit x v (until_next x v) (volume-inside x v ok.volume)
    (until-low fit v (last_of 0 (days x v)) (le_trans (last-before (days x v) t ok.after) ok.last)) x.sizes.l 0 x p.0
    (zero-add x.sizes.l) (start-clear fit v) p.1 in
    subst (RetiredFit x) (accepted-same (retired x v t p.0) d p.2) (record { fit = retired-fit fit v t ok p.0 f; sizes = f.sizes })
