-- The loop's invariant: the tables index the blocks from p on.
use Rattle.book.specs.Layout.{book_of}
use Rattle.finder.specs.Indexed.{IndexedFrom}
use Rattle.index.proofs.linking.build.Given as goal

abbrev pub invariant-loop-p : goal.invariant-loop-p
invariant-loop-p l =
    IndexedFrom l.p (book_of l.book).entries l.index.heads l.index.nexts
