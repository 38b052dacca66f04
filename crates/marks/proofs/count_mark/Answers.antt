-- `count_mark`: the three cases of a mark.
use native.Mathlib.Omega.{arith}
use Rattle.marks.proofs.Marks.{counted-on, counted_none, counted-run, row-anew}
use Rattle.marks.proofs.count_mark.Goals as goal

pub returns-then-open-row : goal.returns-then-open-row
returns-then-open-row c = counted-on _ _ _ c.row_after-row.ensures (omega arith)

pub returns-then-open-eq0 : goal.returns-then-open-eq0
returns-then-open-eq0 c = counted_none _ _ _ c.row_after-row.ensures c.if-open-row.false c.if-open-eq0.true

pub overflow_add-result-3 : goal.overflow_add-result-3
overflow_add-result-3 c =
    omega (arith, row-anew _ _ _ c.row_after-row.ensures c.if-open-row.false)

pub returns : goal.returns
returns c =
    counted-run _ _ _ c.row_after-row.ensures c.if-open-row.false c.if-open-eq0.false
