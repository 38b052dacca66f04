use native.Mathlib.Omega.{arith}
use Rattle.imager.proofs.ImagingLaws.{imaged_more, imaged_end}
use Rattle.imager.proofs.image_of.Goals as goal

pub loop-q-preserved : goal.loop-q-preserved
loop-q-preserved c =
    let l = c.loop-q in
    (omega arith, imaged_more _ _ (omega arith) (omega arith) l.invariant.1 c.undo_slot.ensures)

pub returns : goal.returns
returns c =
    let l = c.loop-q in
    imaged_end _ _ _ (omega arith) (omega arith) l.invariant.1
