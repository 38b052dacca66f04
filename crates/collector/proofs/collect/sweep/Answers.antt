use Prim.Native.Nat.{◌+◌}
use mathlib.Core.Path.{◌≡◌}
use native.Mathlib.Omega.{arith}
use Rattle.words.specs.Lists.{bit}
use Rattle.collector.proofs.Sweep.{sweeping_start, sweeping_inside, sweeping_more, sweeping_end}
use Rattle.collector.proofs.collect.sweep.Goals as goal
use Rattle.collector.proofs.collect.sweep.Goals.{then-free_over, else-free_over}

pub loop-p-init : goal.loop-p-init
loop-p-init c = sweeping_start _ c.requires

pub free_over-requires-clause-p_bound : goal.free_over-requires-clause-p_bound
free_over-requires-clause-p_bound c = sweeping_inside c.loop-p.invariant (omega arith)

pub loop-p-preserved : goal.loop-p-preserved
loop-p-preserved c =
    let counted : c.if-free_over.freed ≡ c.loop-p.freed + bit c.free_over.result = elim c.if-free_over.branch [
      | then-free_over w ↦ rw w.if-free_over.true w.freed-is
      | else-free_over w ↦ rw w.if-free_over.false (omega (arith, w.freed-is))
    ] in
    sweeping_more _ c.requires c.loop-p.invariant (omega arith) c.free_over.ensures.value
    c.free_over.ensures.is counted

pub returns : goal.returns
returns c =
    let h = sweeping_end _ c.requires c.loop-p.invariant (omega arith) in
    record { value = h.0; is = h.1 }
