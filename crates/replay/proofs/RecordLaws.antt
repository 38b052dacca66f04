-- Laws of specs/Records.antt.
-- The records of a backup, taken once: each is replayed in the cells, raises the expiry of its before, and stamps its LBN.
use Prim.Native.Nat.{ℕ, suc, ◌+◌, ◌*◌, ◌≤◌, ◌<◌}
use mathlib.Core.Path.{◌≡◌, refl, sym, ap, ◌∙◌}
use mathlib.Core.Bool.{Bool, true, ◌&&◌, ◌||◌}
use mathlib.Core.List.{List, []}
use native.Mathlib.Numerals.{add-one}
use lib.Dec.{eqb}
use lib.ListN.{length, get_or, set}
use lib.Seq.{slice, slice-cons, slice_empty}
use Rattle.words.proofs.ChoiceLaws.{and_assoc, and-swap, and_yes}
use Rattle.book.specs.Book.{Rec, Book, no_rec, rec_at}
use Rattle.journal.specs.Struct.{RecordIs}
use Rattle.journal.specs.declared.record.Record.{Record}
use Rattle.model.specs.Audit.{cell_sound}
use Rattle.due.specs.Expiries.{Raised, until_one, until_each}
use Rattle.due.proofs.ExpiryLaws.{Raising, raising_start, raising_record, raising_records}
use Rattle.replay.specs.Stamps.{firsts_sound, stamped}
use Rattle.replay.specs.Table.{row_size, cells_after, cells_before}
use Rattle.replay.specs.declared.records.Taking.{Taking}
use Rattle.replay.specs.Records.{Notes, RecordTaken, records_test, RecordsTaken}

-- .. of a record as the code has it
pub record-taken : {x : Book} {t : Taking} {r : Rec} {c : Record} {n n' : Notes} {same met held : Bool} → RecordIs r c
    → same ≡ eqb (get_or n.cells (t.volume * row_size + c.lbn.0) 0) c.before.0
    → n'.cells ≡ set n.cells (t.volume * row_size + c.lbn.0) c.after.0
    → Raised n.expiries (until_one t.until c.before.0) n'.expiries
    → met ≡ eqb (get_or n.stamps c.lbn.0 0) t.stamp → n'.stamps ≡ set n.stamps c.lbn.0 t.stamp
    → held ≡ cell_sound x c.before.0 → RecordTaken x t r (same && ((t.past || met) || held)) n n'
record-taken i a b e f g h =
    record {
      test = rw (← i.lbn, ← i.before) (rw (a, f, h));
      cells = rw (← i.lbn, ← i.after) b;
      expiries = rw (← i.before) e;
      stamps = rw (← i.lbn) g;
    }

-- ---- a pass so far: what is left of it decides as the whole does

pub record RecordsLeft (x : Book) (t : Taking) (n₀ : Notes) (rs₀ : List Rec) (good : Bool) (n : Notes) (rs : List Rec) : Type 0 where
  pub test : records_test x t n₀ rs₀ ≡ (good && records_test x t n rs)
  pub cells : cells_after (t.volume * row_size) n₀.cells rs₀ ≡ cells_after (t.volume * row_size) n.cells rs
  pub expiries : Raising n₀.expiries (until_each t.until rs₀) n.expiries (until_each t.until rs)
  pub stamps : stamped t.stamp n₀.stamps rs₀ ≡ stamped t.stamp n.stamps rs

module _ (x : Book) (t : Taking) (n₀ : Notes) (rs₀ : List Rec) where
  pub records-start : RecordsLeft x t n₀ rs₀ true n₀ rs₀
  records-start = record { test = refl; cells = refl; expiries = raising_start; stamps = refl }

  pub records-more : {good good' : Bool} {n n' : Notes} (rs : List Rec) (q e : ℕ) → q < e → e ≤ length rs
      → RecordTaken x t (rec_at rs q) good' n n' → RecordsLeft x t n₀ rs₀ good n (slice q e rs)
      → RecordsLeft x t n₀ rs₀ (good && good') n' (slice (q + 1) e rs)
  records-more {good} {good'} {n} {n'} rs q e h k s w =
      let c = slice-cons q e rs no_rec h k in
      let r = rec_at rs q in
      let same = eqb (get_or n.cells (t.volume * row_size + r.lbn) 0) r.before in
      let first = (t.past || eqb (get_or n.stamps r.lbn 0) t.stamp) || cell_sound x r.before in
      let rest = slice (suc q) e rs in
      let befores = cells_before (t.volume * row_size) (set n.cells (t.volume * row_size + r.lbn) r.after) rest in
      let firsts = firsts_sound x t.past t.stamp (set n.stamps r.lbn t.stamp) rest in
      record {
        test =
            w.test
            ∙ rw (c, add-one q, s.test, s.cells, s.stamps)
            (ap (λ (b : Bool). good && b) (and-swap same befores first firsts) ∙ sym (and_assoc good (same && first) (befores && firsts)));
        cells = w.cells ∙ rw (c, add-one q, s.cells);
        expiries = raising_record t.until rs q e h k s.expiries refl w.expiries;
        stamps = w.stamps ∙ rw (c, add-one q, s.stamps);
      }

  pub records-end : {good : Bool} {n : Notes} (rs : List Rec) (q e : ℕ) → q ≡ e
      → RecordsLeft x t n₀ rs₀ good n (slice q e rs) → RecordsTaken x t rs₀ good n₀ n
  records-end {good} rs q e h w =
      let z : slice q e rs ≡ [] = rw h (slice_empty e rs) in
      record {
        test = sym (w.test ∙ rw z (and_yes good));
        cells = sym (w.cells ∙ rw z);
        expiries = raising_records t.until rs q e h w.expiries;
        stamps = sym (w.stamps ∙ rw z);
      }
