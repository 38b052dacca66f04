-- `permit::backups::backups_of` meets its contract: each turn passes one slot, the volume's or another's.
use Prim.Native.Nat.{◌≤◌}
use Rattle.book.specs.Layout.{book_of}
use Rattle.permit.proofs.BackupsPassed.{Passed}
use Rattle.permit.proofs.backups.backups_of.Given as goal

abbrev pub invariant-loop-q : goal.invariant-loop-q
invariant-loop-q l =
    (l.count ≤ l.q) × Passed (book_of l.book) l.v l.q l.count l.last l.retired
