-- An accepted collect leaves a fit book.
use Prim.Native.Nat.{ℕ}
use mathlib.Core.Path.{◌≡◌, refl, ◌∙◌}
use mathlib.Core.Bool.{Bool, true, false, ◌&&◌}
use lib.Dec.{ltb, eqb}
use lib.ListN.{length-map}
use borrow.Author.Tests.{eqb-true}
use Rattle.words.specs.Choice.{when◌then◌else◌}
use Rattle.words.proofs.ChoiceLaws.{and_true}
use Rattle.words.proofs.Mapped.{all_map}
use Rattle.words.proofs.Places.{all_weaker}
use Rattle.book.specs.Book.{Entry, Book, no_print}
use Rattle.book.specs.Next.{with_day, with_entries, made_free}
use Rattle.model.specs.Collect.{collect_number, is_over, swept_entry, collected}
use Rattle.claims.proofs.claims.CollectLaws.{collect-days}
use Rattle.claims.proofs.agreement.Agree.{Fit}
use Rattle.claims.proofs.form.FitParts.{entry_fit, fit_parts, parts-fit}
use Rattle.claims.proofs.form.EntriesFit.{fit-expiry, unused_fit}
use Rattle.claims.proofs.form.SlotsFit.{slots_kept}

-- a freed entry has count 0, a zero fingerprint and the expiry that it had
after-fit : (t : ℕ) (e : Entry) → entry_fit e ≡ true → entry_fit (swept_entry t e) ≡ true
unfolding swept_entry is_over made_free no_print
after-fit t e f = go (is_over t e) refl
  where
    go : (o : Bool) → is_over t e ≡ o → entry_fit (when o then made_free e else e) ≡ true
    go true k =
        let none = (and_true e.held (eqb e.count 0) (and_true (e.held && eqb e.count 0) (ltb e.expiry t) k).0).1 in
        unused_fit (made_free e) (fit-expiry e f) refl (eqb-true e.count 0 none) refl
    go false k = f

pub collect-fit : {x : Book} → Fit x → (t : ℕ) → collect_number x t ≡ 0 → Fit (collected x t).book
unfolding collected with_day with_entries
collect-fit {x} f t ok =
    let p = fit_parts f in
    let d = (collect-days x t).0 ok in
    parts-fit (record {
      sizes = p.sizes;
      day = d.1;
      cursor = p.cursor;
      retention_count = p.retention_count;
      retentions = p.retentions;
      entry_count = length-map x.entries (swept_entry t) ∙ p.entry_count;
      entries =
          all_map entry_fit (swept_entry t) x.entries
          ∙ all_weaker entry_fit (λ e. entry_fit (swept_entry t e)) x.entries (after-fit t) p.entries;
      map_count = p.map_count;
      maps = p.maps;
      slot_count = p.slot_count;
      slots = slots_kept x (collected x t).book x.slots (λ v e. e) d.0 refl p.slots;
      days = p.days;
      pairs = p.pairs;
      record_count = p.record_count;
      records = p.records;
      afters = p.afters;
    })
