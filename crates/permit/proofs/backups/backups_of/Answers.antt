use Prim.Native.Nat.{◌<◌}
use native.Mathlib.Omega.{arith}
use lib.ListN.{length}
use Rattle.book.specs.Layout.{told}
use Rattle.permit.proofs.BackupsPassed.{passed_none, passed-own, passed-other, passed-all}
use Rattle.permit.proofs.backups.backups_of.Goals as goal
use Rattle.permit.proofs.backups.backups_of.Goals.{then-slot-v, else-slot-v}

pub loop-q-init : goal.loop-q-init
loop-q-init c = (omega arith, passed_none _ _)

pub loop-q-preserved : goal.loop-q-preserved
loop-q-preserved c =
    let l = c.loop-q in
    let h : l.q < length (told c.args.book).slots = omega arith in
    let t = c.slot_at-slot.result in
    let s = c.slot_at-slot.ensures in
    elim c.if-slot-v.branch [
      | then-slot-v w ↦ (
        omega arith,
        rw (w.count-is, w.last-is, w.retired-is) (passed-own _ _ l.q l.count l.last l.retired l.invariant.1 t s h (omega arith)),
      )
      | else-slot-v w ↦ (
        omega arith,
        rw (w.count-is, w.last-is, w.retired-is) (passed-other _ _ l.q l.count l.last l.retired l.invariant.1 t s h (λ e. omega arith)),
      )
    ]

pub returns : goal.returns
returns c =
    let l = c.loop-q in
    passed-all _ _ l.q l.count l.last l.retired l.invariant.1 (omega arith)
