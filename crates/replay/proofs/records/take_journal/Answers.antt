use Prim.Native.Nat.{ℕ}
use Rattle.words.proofs.Places.{get_or_replicated}
use Rattle.due.proofs.LastLaws.{lasts-start}
use Rattle.replay.proofs.SlotLaws.{slots-start, slots-more, slots_end}
use Rattle.replay.specs.Table.{row_size}
use native.Mathlib.Omega.{arith}
use Rattle.replay.proofs.records.take_journal.Goals as goal

pub used_slots-used-requires : goal.used_slots-used-requires
used_slots-used-requires c = c.requires.holds

pub loop-q-init : goal.loop-q-init
loop-q-init c = (slots-start _ _ _ _ (λ l. omega (arith, get_or_replicated {A = ℕ} row_size 0 l)), lasts-start _)

pub take_slot-taken-requires : goal.take_slot-taken-requires
take_slot-taken-requires c =
    let i = c.loop-q.invariant in
    record { form_facts = c.requires; q_in_bounds = (omega arith, i.1); stamps_low = i.0.low }

pub loop-q-preserved : goal.loop-q-preserved
loop-q-preserved c =
    let l = c.loop-q in
    (slots-more _ _ _ l.q (omega arith) c.take_slot-taken.ensures.takes_slot l.invariant.0, c.take_slot-taken.ensures.lasts_are)

pub returns : goal.returns
returns c =
    let l = c.loop-q in
    slots_end _ _ _ l.q (omega arith) l.invariant.0
