use Prim.Native.Nat.{◌<◌}
use native.Mathlib.Omega.{arith}
use lib.ListN.{length}
use Rattle.book.specs.Layout.{told}
use Rattle.figures.proofs.Passed.{passed_none, passed-own, passed-other, passed-all}
use Rattle.figures.proofs.volume.count_backups.Goals as goal
use Rattle.figures.proofs.volume.count_backups.Goals.{then-slot-v, else-slot-v}

pub loop-q-init : goal.loop-q-init
loop-q-init c = passed_none _ _

pub loop-q-preserved : goal.loop-q-preserved
loop-q-preserved c =
    let l = c.loop-q in
    let h : l.q < length (told c.args.book).slots = omega arith in
    let t = c.slot_at-slot.result in
    let s = c.slot_at-slot.ensures in
    elim c.if-slot-v.branch [
      | then-slot-v w ↦ rw w.count-is (passed-own _ _ l.q t s h l.count l.invariant w.if-slot-v.true)
      | else-slot-v w ↦ rw w.count-is (passed-other _ _ l.q t s h l.count l.invariant w.if-slot-v.false)
    ]

pub returns : goal.returns
returns c = let l = c.loop-q in passed-all _ _ l.q l.count l.invariant (omega arith)
