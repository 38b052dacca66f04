-- The loop's invariant: the tables index the blocks from p on, and `good` says whether their fingerprints differ.
use mathlib.Core.Path.{◌≡◌}
use Rattle.book.specs.Layout.{book_of}
use Rattle.finder.specs.Indexed.{IndexedFrom}
use Rattle.auditor.proofs.HeldPrints.{differ_from}
use Rattle.auditor.proofs.prints.prints_sound.Given as goal

abbrev pub invariant-loop-p : goal.invariant-loop-p
invariant-loop-p l =
    IndexedFrom l.p (book_of l.book).entries l.index.heads l.index.nexts
    × (l.good ≡ differ_from (book_of l.book).entries l.p)
