-- `figures::volume::count_backups` meets its contract: the backups counted, and those in the slots left, are all of the
-- volume's.
use Rattle.book.specs.Layout.{book_of}
use Rattle.figures.proofs.Passed.{Passed}
use Rattle.figures.proofs.volume.count_backups.Given as goal

abbrev pub invariant-loop-q : goal.invariant-loop-q
invariant-loop-q l =
    Passed (book_of l.book) l.v l.q l.count
