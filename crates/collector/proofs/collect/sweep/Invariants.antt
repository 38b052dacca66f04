-- `collector::collect::sweep` meets its contract. The loop's invariant: the blocks passed are swept, and those that were over are counted.
use Rattle.collector.proofs.Sweep.{Sweeping}
use Rattle.collector.proofs.collect.sweep.Given as goal

abbrev pub invariant-loop-p : goal.invariant-loop-p
invariant-loop-p l =
    Sweeping l.initial.book l.day l.book l.freed l.p
