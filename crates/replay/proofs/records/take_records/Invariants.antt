-- `super::records::take_records` meets its contract: what is left of the records decides as the whole does.
use lib.Seq.{slice}
use Rattle.book.specs.Layout.{book_of}
use Rattle.replay.specs.Records.{notes}
use Rattle.replay.proofs.RecordLaws.{RecordsLeft}
use Rattle.replay.proofs.records.take_records.Given as goal

abbrev pub invariant-loop-q : goal.invariant-loop-q
invariant-loop-q l =
    RecordsLeft (book_of l.book) l.t (notes l.initial.tables.cells l.initial.tables.expiries l.initial.stamps) (slice l.from l.end (book_of l.book).records) l.good
    (notes l.tables.cells l.tables.expiries l.stamps) (slice l.q l.end (book_of l.book).records)
