-- `imager::image_of` meets its contract: a turn takes back the slot before those that were taken back.
use Prim.Native.Nat.{◌+◌, ◌-◌, ◌≤◌}
use lib.ListN.{length}
use Rattle.book.specs.Layout.{book_of}
use Rattle.imager.specs.Imaging.{Imaged}
use Rattle.imager.proofs.image_of.Given as goal

abbrev pub invariant-loop-q : goal.invariant-loop-q
invariant-loop-q l =
    (length (book_of l.book).slots ≤ l.q + (length (book_of l.book).slots - l.at))
    × Imaged (book_of l.book) l.v l.q l.image
