-- `calendar::backups::next_own` meets its contract: the slots passed are other volumes'.
use mathlib.Core.Path.{◌≡◌}
use Rattle.book.specs.Layout.{book_of}
use Rattle.model.specs.JournalAt.{own_from}
use Rattle.calendar.proofs.backups.next_own.Given as goal

abbrev pub invariant-loop-r : goal.invariant-loop-r
invariant-loop-r l =
    own_from (book_of l.book) l.v l.q ≡ own_from (book_of l.book) l.v l.r
