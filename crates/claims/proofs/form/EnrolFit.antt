-- An accepted enrol leaves a fit book.
use Prim.Native.Nat.{ℕ, ◌≤◌}
use mathlib.Core.Path.{◌≡◌, refl, ap, ◌∙◌}
use mathlib.Core.Logic.{◌≢◌}
use mathlib.Core.Bool.{Bool, true, false, not, ◌||◌}
use native.Mathlib.Omega.{arith}
use lib.Dec.{ltb, eqb}
use lib.ListN.{length-set}
use borrow.Author.Tests.{le-leb, ne_eqb}
use Rattle.words.specs.Choice.{when◌then◌else◌}
use Rattle.words.proofs.Mapped.{get_or-set-test}
use Rattle.words.proofs.Places.{all_set}
use Rattle.book.specs.Book.{Book}
use Rattle.book.specs.Form.{retention_ok, enrolled}
use Rattle.book.specs.Next.{with_retention}
use Rattle.model.specs.Days.{bad_retention}
use Rattle.claims.proofs.kept.DayLaws.{good-retention}
use Rattle.model.specs.Enrol.{enrol_number}
use Rattle.claims.proofs.agreement.Agree.{Fit}
use Rattle.claims.proofs.form.FitParts.{fit_parts, parts-fit}
use Rattle.claims.proofs.form.SlotsFit.{slots_kept}

-- number 6, passed
retention-passed : (x : Book) (v r : ℕ) → enrol_number x v r ≡ 0 → (r ≢ 0) × (r ≤ 5000)
unfolding enrol_number
retention-passed x v r e = go (ltb 7 v || enrolled x v) (bad_retention r) refl e
  where
    go : (a b : Bool) → bad_retention r ≡ b → ◌≡◌ {A = ℕ} (when a then 5 else when b then 6 else 0) 0 → (r ≢ 0) × (r ≤ 5000)
    go true b f e = absurd (omega arith)
    go false true f e = absurd (omega arith)
    go false false f e = let w = (good-retention r).0 f in (λ z. omega arith, w.1)

-- who was enrolled stays so
enrolled-kept : (x : Book) (v r u : ℕ) → r ≢ 0 → enrolled x u ≡ true → enrolled (with_retention v r x) u ≡ true
unfolding with_retention
enrolled-kept x v r u some e = get_or-set-test (λ k. not (eqb k 0)) x.retentions v r 0 u (ap not (ne_eqb r 0 some)) e

pub enrol-fit : {x : Book} → Fit x → (v r : ℕ) → enrol_number x v r ≡ 0 → Fit (with_retention v r x)
unfolding with_retention retention_ok
enrol-fit {x} f v r ok =
    let p = fit_parts f in
    let n = retention-passed x v r ok in
    parts-fit (record {
      sizes = p.sizes;
      day = p.day;
      cursor = p.cursor;
      retention_count = length-set x.retentions v r ∙ p.retention_count;
      retentions = all_set retention_ok x.retentions v r p.retentions (le-leb r 5000 n.1);
      entry_count = p.entry_count;
      entries = p.entries;
      map_count = p.map_count;
      maps = p.maps;
      slot_count = p.slot_count;
      slots = slots_kept x (with_retention v r x) x.slots (λ u. enrolled-kept x v r u n.0) (omega arith) refl p.slots;
      days = p.days;
      pairs = p.pairs;
      record_count = p.record_count;
      records = p.records;
      afters = p.afters;
    })
