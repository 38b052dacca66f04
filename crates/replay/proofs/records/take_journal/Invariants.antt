-- `super::records::take_journal` meets its contract: what is left of the journal decides as the whole does.
use Rattle.book.specs.Layout.{book_of}
use Rattle.due.specs.Lasts.{LastsAre}
use Rattle.replay.specs.Records.{notes}
use Rattle.replay.proofs.SlotLaws.{SlotsLeft}
use Rattle.replay.proofs.records.take_journal.Given as goal

abbrev pub invariant-loop-q : goal.invariant-loop-q
invariant-loop-q l =
    SlotsLeft (book_of l.book) l.initial.tables.cells l.initial.tables.expiries l.good (notes l.tables.cells l.tables.expiries l.stamps) l.q × LastsAre (book_of l.book) l.q l.lasts
