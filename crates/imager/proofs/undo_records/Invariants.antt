-- `imager::undo_records` meets its contract: a turn takes back the record before those that were taken back.
use Prim.Native.Nat.{◌≤◌}
use lib.Seq.{slice}
use Rattle.book.specs.Layout.{book_of}
use Rattle.imager.specs.Imaging.{Undone}
use Rattle.imager.proofs.undo_records.Given as goal

abbrev pub invariant-loop-q : goal.invariant-loop-q
invariant-loop-q l =
    (l.first ≤ l.q) × Undone (book_of l.book) (slice l.q l.end (book_of l.book).records) l.initial.image l.image
