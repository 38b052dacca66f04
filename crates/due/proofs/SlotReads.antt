-- A used slot of a book in form: its bounds, and the backup that it holds.
use Prim.Native.Nat.{ℕ, ◌+◌, ◌≤◌, ◌<◌}
use mathlib.Core.Path.{◌≡◌, sym, ◌∙◌}
use mathlib.Core.Bool.{true, false}
use mathlib.Core.List.{List}
use native.Mathlib.Decide.{dec_lt}
use native.Mathlib.Omega.{arith}
use lib.ListN.{length, get_or-eq_default}
use lib.Seq.{slice}
use Rattle.words.proofs.Parts.{drop-take}
use Rattle.book.specs.Book.{volumes, Slot, Book, Sized, slot_at, retention_of}
use Rattle.book.specs.Form.{enrolled}
use Rattle.book.specs.FormFacts.{BookParts}
use Rattle.book.specs.Layout.{book_of, Holds}
use Rattle.book.proofs.Conditions.{slot_in, retention_in, pairs_in}
use Rattle.journal.specs.Struct.{SlotIs}
use Rattle.journal.specs.declared.slot.Slot as read
use Rattle.model.specs.JournalAt.{backup_at}
use Rattle.claims.proofs.kept.JournalAtLaws.{records-at}

-- a used slot of the book x
pub record SlotIn (x : Book) (t : Slot) : Type 0 where
  pub volume : t.volume < volumes
  pub day : t.day ≤ x.day
  pub today : x.day ≤ 60000
  pub retention : retention_of x t.volume ≤ 5000
  pub records : t.first + t.number ≤ length x.records

enrolled-volume : (x : Book) → Sized x → (v : ℕ) → enrolled x v ≡ true → v < volumes
enrolled-volume x s v e = go (dec_lt v volumes)
  where
    go : Dec (v < volumes) → v < volumes
    go (yes l) = l
    go (no l) =
        let none : retention_of x v ≡ 0 = get_or-eq_default x.retentions 0 {n = v} (omega (arith, s.retentions)) in
        let z : false ≡ true = rw none at e in
        let k : ◌≡◌ {A = ℕ} 0 1 = cc in absurd (omega arith)

pub slot-bounds : (x : Book) → Sized x → BookParts x → (q : ℕ) → q < length x.slots → SlotIn x (slot_at x.slots q)
slot-bounds x s p q h =
    let t = slot_at x.slots q in
    let i = slot_in x p q h in
    record {
      volume = enrolled-volume x s t.volume i.0;
      day = i.1;
      today = p.day;
      retention = retention_in x p t.volume;
      records = pairs_in x.slots 0 (length x.records) p.pairs q h;
    }

-- ---- a slot as the code has it, read from the book

pub record SlotRead (x : Book) (r : read.Slot) : Type 0 where
  pub volume : r.volume < volumes
  pub day : r.day ≤ 60000
  pub retention : retention_of x r.volume ≤ 5000
  pub records : r.first + r.number ≤ length x.records
  pub room : length x.records ≤ 16384

module _ {b : List ℕ} (h : Holds b) (p : BookParts (book_of b)) (q : ℕ) (k : q < length (book_of b).slots) {r : read.Slot}
    (i : SlotIs (slot_at (book_of b).slots q) r) where
  pub slot_read : SlotRead (book_of b) r
  slot_read =
      let w = slot-bounds (book_of b) h.sized p q k in
      record {
        volume = rw i.volume w.volume;
        day = rw i.day (omega (arith, w.day, w.today));
        retention = rw i.volume w.retention;
        records = rw (i.first, i.number) w.records;
        room = omega (arith, h.records, h.j);
      }

  -- it says which records are its backup's
  pub records-read : (backup_at (book_of b) q).records ≡ slice r.first (r.first + r.number) (book_of b).records
  records-read =
      let x = book_of b in
      records-at x q p.pairs k
      ∙ rw (i.first, i.number) (sym (drop-take (slot_at x.slots q).first (slot_at x.slots q).number x.records))
