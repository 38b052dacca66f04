-- The block is held in the book first, and the index is then that of the book without it. The loop's invariant: q is a
-- block of p's bucket below p, and next is what follows it.
use Prim.Native.Nat.{◌-◌}
use mathlib.Core.Path.{◌≡◌}
use lib.ListN.{get_or}
use Rattle.book.specs.Layout.{book_of}
use Rattle.index.proofs.InsertLaws.{Before}
use Rattle.index.proofs.inserting.hold.Given as goal

abbrev pub invariant-loop-next : goal.invariant-loop-next
invariant-loop-next l =
    Before (book_of l.book).entries l.p.0 l.q × (l.next ≡ get_or l.index.nexts l.q 0)

abbrev pub decreases-loop-next : goal.decreases-loop-next
decreases-loop-next l =
    l.p.0 - l.q
