-- `keeping::backups_after` meets its contract: a turn passes one slot, until the volume's next one after its k-th.
use Rattle.book.specs.Layout.{book_of}
use Rattle.keeping.proofs.AfterLaws.{Skipped}
use Rattle.keeping.proofs.backups_after.Given as goal

abbrev pub invariant-loop-q : goal.invariant-loop-q
invariant-loop-q l =
    Skipped (book_of l.book) l.v l.k l.q l.missing l.taken l.retire
