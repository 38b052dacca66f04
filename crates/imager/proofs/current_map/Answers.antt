use native.Mathlib.Omega.{arith}
use Rattle.imager.proofs.ImagingLaws.{copied_more, copied_all}
use Rattle.imager.proofs.current_map.Goals as goal

pub loop-l-preserved : goal.loop-l-preserved
loop-l-preserved c =
    copied_more _ _ c.loop-l.invariant (omega arith) c.cell-p.ensures

pub returns : goal.returns
returns c = copied_all _ _ c.loop-l.invariant (omega arith)
