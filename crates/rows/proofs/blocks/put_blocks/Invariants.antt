-- `put_blocks`: the rows from p on are left.
use Rattle.book.specs.Layout.{book_of}
use Rattle.rows.proofs.Rows.{Rows}
use Rattle.rows.proofs.blocks.put_blocks.Given as goal

abbrev pub invariant-loop-p : goal.invariant-loop-p
invariant-loop-p l =
    Rows (book_of l.book) l.initial.out l.out l.at l.p
