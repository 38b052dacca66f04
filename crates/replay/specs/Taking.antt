-- What the functions over the records leave in the tables that they are lent; r is what a function returns.
use Rattle.std.specs.Prelude.{ℕ, ◌+◌, Bool, List}
use Rattle.std.proofs.Math.Seq.{slice}
use Rattle.words.specs.Lent.{Lent}
use Rattle.book.specs.Book.{Book, rec_at}
use Rattle.book.specs.Layout.{told}
use Rattle.model.specs.JournalAt.{backup_at}
use Rattle.replay.specs.Records.{Notes, notes, RecordTaken, RecordsTaken}
use Rattle.replay.specs.Slots.{SlotTaken, JournalTaken}
use Rattle.replay.specs.declared.notes.Tables.{Tables}
use Rattle.replay.specs.declared.records.Taking.{Taking}

module _ (book : Lent (List ℕ)) (tables : Lent Tables) where
  abbrev x : Book
  x = told book.entry

  module _ (stamps : Lent (List ℕ)) where
    abbrev before : Notes
    before = notes tables.entry.now.cells tables.entry.now.expiries stamps.entry.now

    abbrev after : Notes
    after = notes tables.exit.now.cells tables.exit.now.expiries stamps.exit.now

    abbrev pub TakesRecord : Taking → ℕ → Bool → Type 0
    TakesRecord t q r = RecordTaken x t (rec_at x.records q) r before after

    abbrev pub TakesRecords : Taking → ℕ → ℕ → Bool → Type 0
    TakesRecords t from end r = RecordsTaken x t (slice from end x.records) r before after

    abbrev pub TakesSlot : ℕ → Bool → Type 0
    TakesSlot q r = SlotTaken x (backup_at x q) (q + 1) r before after

  abbrev pub TakesJournal : Bool → Type 0
  TakesJournal r = JournalTaken x r tables.entry.now.cells tables.entry.now.expiries tables.exit.now.cells tables.exit.now.expiries
