-- `rewriter::put_entries`: the entries from the counter on are left.
use Rattle.book.specs.Layout.{book_of}
use Rattle.rewriter.proofs.Storing.{Entered}
use Rattle.rewriter.proofs.put_entries.Given as goal

abbrev pub invariant-loop : goal.invariant-loop
invariant-loop l =
    Entered l.from l.to (book_of l.book) l.initial.out l.out l.taken l.at l.counter
