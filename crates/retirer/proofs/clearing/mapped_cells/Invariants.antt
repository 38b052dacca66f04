-- The loop's invariant: the mapped cells are those counted, and those from here on.
use Prim.Native.Nat.{◌+◌, ◌≤◌}
use mathlib.Core.Path.{◌≡◌}
use Rattle.book.specs.Layout.{book_of}
use Rattle.model.specs.Retire.{mapped_cells}
use Rattle.retirer.proofs.ClearLaws.{mapped_from}
use Rattle.retirer.proofs.clearing.mapped_cells.Given as goal

abbrev pub invariant-loop-lbn : goal.invariant-loop-lbn
invariant-loop-lbn l =
    (l.count ≤ l.lbn) × (mapped_cells (book_of l.book) l.v ≡ l.count + mapped_from (book_of l.book) l.v l.lbn)
