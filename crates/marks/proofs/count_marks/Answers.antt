use native.Mathlib.Omega.{arith}
use Rattle.marks.proofs.Counting.{none-counted, counting_more, counting_end}
use Rattle.marks.proofs.count_marks.Goals as goal

pub loop-mark-init : goal.loop-mark-init
loop-mark-init c = none-counted _

pub loop-mark-preserved : goal.loop-mark-preserved
loop-mark-preserved c =
    let l = c.loop-mark in
    counting_more _ l.t _ l.mark-index (omega arith) c.count_mark-t.ensures l.invariant

pub returns : goal.returns
returns c =
    let l = c.loop-mark in
    counting_end _ l.t _ l.mark-index _ c.loop-mark-test.false (λ e. omega arith) c.count_mark.ensures
    l.invariant
