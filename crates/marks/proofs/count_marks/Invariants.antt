-- `count_marks`: what is counted and what is left come to E and n.
use Rattle.marks.proofs.Counting.{Counting}
use Rattle.marks.proofs.count_marks.Given as goal

abbrev pub invariant-loop-mark : goal.invariant-loop-mark
invariant-loop-mark l = Counting l.marks l.t l.mark-index
