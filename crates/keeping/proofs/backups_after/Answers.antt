use Prim.Native.Nat.{◌<◌}
use native.Mathlib.Omega.{arith}
use lib.ListN.{length}
use Rattle.book.specs.Layout.{told}
use Rattle.keeping.proofs.AfterLaws.{skipped_none, skipped_own, skipped_other, skipped_stop, skipped_short, skipped_end}
use Rattle.keeping.proofs.backups_after.Goals as goal
use Rattle.keeping.proofs.backups_after.Goals.{then-slot-v+else-missing-eq0, else-slot-v}

pub loop-q-init : goal.loop-q-init
loop-q-init c = skipped_none _ _ _

pub returns-then-missing-eq0 : goal.returns-then-missing-eq0
returns-then-missing-eq0 c =
    let l = c.loop-q in
    skipped_stop _ _ _ l.q l.missing l.taken l.retire l.invariant c.slot_at-slot.result c.slot_at-slot.ensures (omega arith)
    (omega arith)

pub loop-q-preserved : goal.loop-q-preserved
loop-q-preserved c =
    let l = c.loop-q in
    let h : l.q < length (told c.args.book).slots = omega arith in
    let t = c.slot_at-slot.result in
    let s = c.slot_at-slot.ensures in
    let i = l.invariant in
    elim c.if-slot-v.branch [
      | then-slot-v+else-missing-eq0 w ↦
          rw (w.missing-is, w.taken-is, w.retire-is) (skipped_own _ _ _ l.q l.missing l.taken l.retire i t s h (omega arith) (omega arith))
      | else-slot-v w ↦
          rw (w.missing-is, w.taken-is, w.retire-is) (skipped_other _ _ _ l.q l.missing l.taken l.retire i t s h (λ e. omega arith))
    ]

pub returns-then-missing-ne0 : goal.returns-then-missing-ne0
returns-then-missing-ne0 c =
    let l = c.loop-q in
    let used = c.used_slots-used in
    skipped_short _ _ _ l.q l.missing l.taken l.retire l.invariant used.result used.ensures (omega arith) (omega arith)

pub returns : goal.returns
returns c =
    let l = c.loop-q in
    let used = c.used_slots-used in
    skipped_end _ _ _ l.q l.missing l.taken l.retire l.invariant used.result used.ensures (omega arith) (omega arith)
