-- `count_entries`: the entries before p are counted.
use Rattle.book.specs.Layout.{book_of}
use Rattle.counter.proofs.CountLaws.{Passing}
use Rattle.counter.proofs.counts.count_entries.Given as goal

abbrev pub invariant-loop-p : goal.invariant-loop-p
invariant-loop-p l =
    Passing (book_of l.book).entries l.p l.t
