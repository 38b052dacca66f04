-- The loop's invariant: the blocks below the one reached are written, the others are as they were.
use Rattle.book.specs.Layout.{book_of}
use Rattle.intake.proofs.StoringLaws.{Stored}
use Rattle.intake.proofs.storing.store_all.Given as goal

abbrev pub invariant-loop-p : goal.invariant-loop-p
invariant-loop-p l =
    Stored (book_of l.book).entries (book_of l.work).entries l.taker l.list.bytes.now l.initial.pool l.pool l.p
