-- `super::records::take_slot` meets its contract, by `slot-taken`.
use mathlib.Core.Path.{ap₂}
use lib.Dec.{ltb}
use Rattle.book.specs.Layout.{told}
use Rattle.due.proofs.SlotReads.{SlotRead, slot_read}
use Rattle.replay.proofs.SlotLaws.{slot-taken}
use native.Mathlib.Omega.{arith}
use Rattle.replay.proofs.records.take_slot.Goals as goal

pub slot_at-slot-requires : goal.slot_at-slot-requires
slot_at-slot-requires c =
    record { holds = c.requires.form_facts.holds; q_in_bounds = c.requires.q_in_bounds.0 }

pub due_day-until-requires : goal.due_day-until-requires
due_day-until-requires c =
    record { holds = (c.requires.form_facts.holds, c.requires.form_facts.parts); q_in_bounds = (c.requires.q_in_bounds.0, c.requires.q_in_bounds.1) }

pub overflow_add-end : goal.overflow_add-end
overflow_add-end c =
    let known : SlotRead (told c.args.book) c.slot_at-slot.result = slot_read c.requires.form_facts.holds c.requires.form_facts.parts c.args.q c.requires.q_in_bounds.0 c.slot_at-slot.ensures in
    omega (arith, known)

pub take_records-requires : goal.take_records-requires
take_records-requires c =
    let known : SlotRead (told c.args.book) c.slot_at-slot.result = slot_read c.requires.form_facts.holds c.requires.form_facts.parts c.args.q c.requires.q_in_bounds.0 c.slot_at-slot.ensures in
    record { form_facts = c.requires.form_facts; volume_lt_volumes = (known.volume, omega arith, known.records) }

pub returns : goal.returns
returns c =
    record {
      takes_slot = slot-taken c.requires.form_facts c.args.q c.requires.q_in_bounds.0 c.slot_at-slot.ensures (omega arith) c.requires.stamps_low
          c.take_records.ensures (omega arith) (omega (arith, c.due_day-until.ensures.value))
          (ap₂ ltb c.due_day-until.ensures.value c.day.ensures) (omega arith);
      lasts_are = c.due_day-until.ensures.lasts_are;
    }
