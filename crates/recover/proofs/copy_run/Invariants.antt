-- `recover::copy_run` meets its contract: the blocks from an LBN on are left.
use Rattle.recover.proofs.Copying.{Copied}
use Rattle.recover.proofs.copy_run.Given as goal

abbrev pub invariant-loop-lbn : goal.invariant-loop-lbn
invariant-loop-lbn l =
    Copied l.pool l.image l.initial.out l.first l.end l.out l.at l.lbn
