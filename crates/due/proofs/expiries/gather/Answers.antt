use Rattle.due.proofs.ExpiryLaws.{raising_start, raising_slot, raising_journal}
use Rattle.due.proofs.LastLaws.{lasts-start}
use native.Mathlib.Omega.{arith}
use Rattle.due.proofs.expiries.gather.Goals as goal

pub used_slots-used-requires : goal.used_slots-used-requires
used_slots-used-requires c = c.requires.0

pub loop-q-init : goal.loop-q-init
loop-q-init c = (raising_start, lasts-start _)

pub gather_slot-requires : goal.gather_slot-requires
gather_slot-requires c =
    record { holds = c.requires; q_in_bounds = (omega arith, c.loop-q.invariant.1) }

pub loop-q-preserved : goal.loop-q-preserved
loop-q-preserved c =
    let l = c.loop-q in
    (raising_slot _ l.q (omega arith) c.gather_slot.ensures.raised l.invariant.0, c.gather_slot.ensures.lasts_are)

pub returns : goal.returns
returns c = let l = c.loop-q in raising_journal _ l.q (omega arith) l.invariant.0
