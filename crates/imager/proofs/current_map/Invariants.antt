-- `imager::current_map` meets its contract: a turn copies one cell.
use Rattle.book.specs.Layout.{book_of}
use Rattle.imager.proofs.ImagingLaws.{Copied}
use Rattle.imager.proofs.current_map.Given as goal

abbrev pub invariant-loop-l : goal.invariant-loop-l
invariant-loop-l l =
    Copied (book_of l.book) l.v l.l l.image
