-- `collector::collect::free_over` meets its contract: what is not over stays as it is, and what is over becomes free.
use mathlib.Core.Bool.{not}
use mathlib.Core.Path.{ap, sym}
use Rattle.words.proofs.ChoiceLaws.{failed, passed}
use Rattle.collector.proofs.Sweep.{free-kept, free-freed}
use Rattle.collector.proofs.collect.free_over.Goals as goal

pub returns-then-not-is_over : goal.returns-then-not-is_over
returns-then-not-is_over c =
    let e = failed c.is_over.ensures (ap not c.if-not-is_over.true) in
    record { value = sym e; is = free-kept _ _ _ c.requires.holds e }

pub returns-clause-is : goal.returns-clause-is
returns-clause-is c = free-freed _ _ _ (passed c.is_over.ensures (ap not c.if-not-is_over.false)) c.free.ensures
