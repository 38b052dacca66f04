use native.Mathlib.Omega.{arith}
use Rattle.counter.proofs.CountLaws.{passing_none, passing_more}
use Rattle.counter.proofs.counts.count_entries.Goals as goal

pub loop-p-init : goal.loop-p-init
loop-p-init c = passing_none _

pub loop-p-preserved : goal.loop-p-preserved
loop-p-preserved c =
    passing_more (omega (arith, c.requires.sized.entries)) c.count.type_inv c.is_held.ensures
    c.count.ensures c.count_entry-t.ensures c.loop-p.invariant
