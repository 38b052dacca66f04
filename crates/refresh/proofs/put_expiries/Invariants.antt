-- `refresh::put_expiries` meets its contract. The loop's invariant: the blocks passed have the table's expiries.
use Rattle.refresh.proofs.Putting.{Putting}
use Rattle.refresh.proofs.put_expiries.Given as goal

abbrev pub invariant-loop-p : goal.invariant-loop-p
invariant-loop-p l =
    Putting l.initial.book l.expiries l.book l.p
