-- The loop's invariant: clearing all cells is clearing those that are left, from the book so far.
use Rattle.retirer.proofs.ClearLaws.{Clearing}
use Rattle.retirer.proofs.clearing.clear_cells.Given as goal

abbrev pub invariant-loop-lbn : goal.invariant-loop-lbn
invariant-loop-lbn l =
    Clearing l.initial.work l.v l.until l.work l.lbn
