-- `super::expiries::gather_slot` meets its contract: the slot says which records are its backup's.
use Rattle.book.specs.Layout.{told}
use Rattle.due.proofs.SlotReads.{SlotRead, slot_read, records-read}
use native.Mathlib.Omega.{arith}
use Rattle.due.proofs.expiries.gather_slot.Goals as goal

pub overflow_add-end : goal.overflow_add-end
overflow_add-end c =
    let known : SlotRead (told c.args.book) c.slot_at-slot.result = slot_read c.requires.holds.0 c.requires.holds.1 c.args.q c.requires.q_in_bounds.0 c.slot_at-slot.ensures in
    omega (arith, known)

pub raise_befores-requires : goal.raise_befores-requires
raise_befores-requires c =
    let known : SlotRead (told c.args.book) c.slot_at-slot.result = slot_read c.requires.holds.0 c.requires.holds.1 c.args.q c.requires.q_in_bounds.0 c.slot_at-slot.ensures in
    record { holds = c.requires.holds.0; from_le_end = (omega arith, known.records) }

pub returns : goal.returns
returns c =
    let records = records-read c.requires.holds.0 c.requires.holds.1 c.args.q c.requires.q_in_bounds.0 c.slot_at-slot.ensures in
    record { raised = rw (← c.due_day-until.ensures.value, records) c.raise_befores.ensures; lasts_are = c.due_day-until.ensures.lasts_are }
