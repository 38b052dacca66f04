-- `calendar::backups::put_rows` meets its contract: the rows from slot q on are left to be stored.
use Prim.Native.Nat.{◌-◌, ◌<◌}
use mathlib.Core.Path.{◌≡◌}
use lib.ListN.{length}
use Rattle.words.proofs.LayingLaws.{Left}
use Rattle.book.specs.Book.{slot_at}
use Rattle.book.specs.Layout.{book_of}
use Rattle.model.specs.Views.{backups_of}
use Rattle.calendar.proofs.Rows.{rows_from}
use Rattle.calendar.proofs.backups.put_rows.Given as goal

abbrev pub invariant-loop-q : goal.invariant-loop-q
invariant-loop-q l =
    Left l.initial.out 0 (backups_of (book_of l.book) l.v) l.out l.at (rows_from (book_of l.book) l.v l.q)
    × (l.q < length (book_of l.book).slots → (slot_at (book_of l.book).slots l.q).volume ≡ l.v)

abbrev pub decreases-loop-q : goal.decreases-loop-q
decreases-loop-q l =
    l.used - l.q
