-- `row_after`: a block that isn't marked, one that finds room in the run, one that finds it full.
use native.Mathlib.Omega.{arith}
use borrow.Author.Tests.{lt-ltb, le-ltb, eq-eqb, ne_eqb}
use Rattle.runs.specs.Changes.{max_run}
use Rattle.runs.specs.Passing.{goes_on, row_after}
use Rattle.marks.proofs.row_after.Goals as goal

pub returns-then-mark-ne1 : goal.returns-then-mark-ne1
unfolding goes_on row_after
returns-then-mark-ne1 c = rw (ne_eqb c.args.mark 1 c.if-mark-ne1.true)

pub returns-then-row : goal.returns-then-row
unfolding goes_on row_after
returns-then-row c =
    let a = c.args in
    rw (eq-eqb a.mark 1 c.if-mark-ne1.false, lt-ltb a.row max_run (omega arith))

pub returns-else-row : goal.returns-else-row
unfolding goes_on row_after
returns-else-row c =
    let a = c.args in
    rw (eq-eqb a.mark 1 c.if-mark-ne1.false, le-ltb a.row max_run (omega arith))
