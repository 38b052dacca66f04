-- An accepted backup leaves a fit book of the same sizes, and a pool of the same length.
use Prim.Native.Nat.{ℕ, ◌+◌}
use mathlib.Core.Path.{◌≡◌, refl, sym, ap, subst, ◌∙◌}
use mathlib.Core.Bool.{true, false, not}
use mathlib.Core.List.{List, [], ◌∷◌, ◌++◌}
use native.Mathlib.Nat.{le_trans, zero-add}
use native.Mathlib.Omega.{arith}
use lib.Dec.{leb, ltb}
use lib.ListN.{length, drop, length-append, length-drop, take-append-drop}
use borrow.Author.Tests.{not-false}
use Rattle.words.proofs.Accepted.{unless-accepted, then-accepted, accepted-same}
use Rattle.words.proofs.Appends.{all_append}
use Rattle.words.proofs.ChoiceLaws.{true_and, or_r}
use Rattle.words.specs.Lists.{all, last_of}
use Rattle.words.specs.Outcome.{accepted, and_then}
use Rattle.words.proofs.Tests.{or_neither}
use Rattle.runs.specs.Changes.{changes, change_count}
use Rattle.runs.proofs.Laws.{length-changes}
use Rattle.book.specs.Book.{Slot, Rec, Book}
use Rattle.book.specs.Form.{afters_ok, enrolled, slot_ok}
use Rattle.book.specs.Next.{with_day, with_slot}
use Rattle.book.proofs.SizesIn.{sizes-facts}
use Rattle.model.specs.Journal.{days, no_volume}
use Rattle.model.specs.Pool.{pool_size}
use Rattle.model.specs.Backup.{Work, Backed, until_next, run_changes, begun, closed, backup_number, backup}
use Rattle.claims.proofs.agreement.Agree.{Fit}
use Rattle.claims.proofs.agreement.AgreeLaws.{volume-inside}
use Rattle.claims.proofs.kept.DayLaws.{last-before}
use Rattle.claims.proofs.form.BackupAllowed.{Allowed, number-zero}
use Rattle.claims.proofs.form.ChangesFit.{changes-fit}
use Rattle.claims.proofs.form.FitParts.{fit_parts, parts-fit}
use Rattle.claims.proofs.form.RunFit.{run-fit, start-fit, until-low}
use Rattle.claims.proofs.form.SlotsFit.{slot_ok_lem, slots_kept, days-more, slots-before, afters-more, pairs-more}
use Rattle.claims.proofs.form.WorkFit.{WorkFit}

-- number 5, passed
pub volume-enrolled : (x : Book) (v : ℕ) → no_volume x v ≡ false → enrolled x v ≡ true
unfolding no_volume
volume-enrolled x v e = not-false (enrolled x v) (or_neither (ltb 7 v) (not (enrolled x v)) e).1

-- ---- the slot is added

module _ {x : Book} (fit : Fit x) (v t : ℕ) (list : List ℕ) (ok : Allowed x v t list) (w : Work) (f : WorkFit x (change_count list) w) where
  abbrev slot : Slot
  slot = record { volume = v; retire = false; day = t; first = length x.records; number = change_count list }

  abbrev y : Book
  y = (closed x v t (change_count list) w).book

  enrolled-kept : (u : ℕ) → enrolled x u ≡ true → enrolled y u ≡ true
  unfolding closed with_day with_slot
  enrolled-kept u e = rw f.retentions e

  slots-after : all (slot_ok y) (x.slots ++ (slot ∷ [])) ≡ true
  unfolding closed with_day with_slot
  slots-after =
      all_append (slot_ok y) x.slots (slot ∷ [])
      ∙ true_and (all (slot_ok y) x.slots) (all (slot_ok y) (slot ∷ []))
      (slots_kept x y x.slots enrolled-kept ok.day (ap (λ z. z.layout) f.sizes) (fit_parts fit).slots)
      (true_and (slot_ok y slot) true
      (slot_ok_lem y slot (enrolled-kept v (volume-enrolled x v ok.volume)) (omega arith) (or_r (leb 3 y.sizes.layout) true refl))
      refl)

  afters-after : afters_ok (w.book.slots ++ (slot ∷ [])) w.book.records ≡ true
  afters-after =
      let u = length x.records in
      let new : length (drop u w.book.records) ≡ change_count list = length-drop u w.book.records ∙ omega (arith, f.record_count) in
      let whole : w.book.records ≡ x.records ++ drop u w.book.records =
      sym (take-append-drop u w.book.records) ∙ ap (λ (rs : List Rec). rs ++ drop u w.book.records) f.given in
      rw f.slots
      (ap (afters_ok (x.slots ++ (slot ∷ []))) whole
      ∙ afters-more 0 x.slots x.records slot (drop u w.book.records) (rw zero-add (fit_parts fit).pairs) new (fit_parts fit).afters f.afters)

  closed-fit : Fit y
  unfolding closed with_day with_slot
  closed-fit =
      let p = fit_parts fit in
      -- the sizes and lengths, for the counts
      let n = ap (λ z. z.n) f.sizes in
      let s = ap (λ z. z.s) f.sizes in
      let j = ap (λ z. z.j) f.sizes in
      let many = length-append w.book.slots (slot ∷ []) in
      let before = ap length f.slots in
      let new = f.record_count in
      parts-fit (record {
        sizes = rw f.sizes p.sizes;
        day = ok.last;
        cursor = rw n f.cursor;
        retention_count = rw f.retentions p.retention_count;
        retentions = rw f.retentions p.retentions;
        entry_count = f.entry_count ∙ sym n;
        entries = f.entries;
        map_count = f.map_count;
        maps = rw f.sizes f.maps;
        slot_count = omega (arith, ok.slots);
        slots = ap (λ (ts : List Slot). all (slot_ok y) (ts ++ (slot ∷ []))) f.slots ∙ slots-after;
        days = rw f.slots (days-more x.slots slot p.days (slots-before x slot p.days ok.living ok.after p.slots ok.day));
        pairs = rw (f.slots, f.record_count) (pairs-more 0 x.slots (length x.records) slot p.pairs refl);
        record_count = omega (arith, ok.records);
        records = rw f.sizes f.records;
        afters = afters-after;
      })

-- ---- the whole call

pub record BackedFit (x : Book) (given : List ℕ) (d : Backed) : Type 0 where
  pub fit : Fit d.book
  pub sizes : d.book.sizes ≡ x.sizes
  pub pool : length d.pool ≡ length given

pub backup-fit : {x : Book} → Fit x → (pool : List ℕ) (v t : ℕ) (list : List ℕ) (d : Backed) → length pool ≡ pool_size x.sizes.n
    → backup x pool v t list ≡ accepted d → BackedFit x pool d
unfolding backup closed with_day with_slot
backup-fit {x} fit pool v t list d long e =
    let o = run_changes v (until_next x v) (changes list) (begun x pool) in
    let a = unless-accepted (backup_number x v t list) (and_then o (λ w. accepted (closed x v t (change_count list) w))) d e in
    let p = then-accepted o (λ w. accepted (closed x v t (change_count list) w)) d a.1 in
    let ok = number-zero x v t list a.0 in
    let f =
    run-fit x v (until_next x v) (volume-inside x v ok.volume) (until-low fit v (last_of 0 (days x v)) (le_trans (last-before (days x v) t ok.after) ok.last)) 0
    (changes list) (begun x pool) p.0
    (changes-fit x.sizes.l list (sizes-facts x.sizes fit.sizes).l ok.good) (start-fit fit pool long) p.1 in
    let n : length (changes list) + 0 ≡ change_count list = omega (arith, length-changes list) in
    let g = subst (λ (k : ℕ). WorkFit x k p.0) n f in
    let q = accepted-same (closed x v t (change_count list) p.0) d p.2 in
    subst (BackedFit x pool) q (record {
      fit = closed-fit fit v t list ok p.0 g;
      sizes = g.sizes;
      pool = g.pool ∙ sym long;
    })
