-- A slot and a record as the code has them are those of the book.
use Rattle.std.specs.Prelude.{◌≡◌}
use Rattle.book.specs.Book as book
use Rattle.journal.specs.declared.slot.Slot.{Slot}
use Rattle.journal.specs.declared.record.Record.{Record}

pub record SlotIs (t : book.Slot) (r : Slot) : Type 0 where
  pub volume : r.volume ≡ t.volume
  pub retire : r.retire ≡ t.retire
  pub day : r.day ≡ t.day
  pub first : r.first ≡ t.first
  pub number : r.number ≡ t.number

pub record RecordIs (t : book.Rec) (r : Record) : Type 0 where
  pub lbn : r.lbn.0 ≡ t.lbn
  pub before : r.before.0 ≡ t.before
  pub after : r.after.0 ≡ t.after
