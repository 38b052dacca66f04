-- `super::lasts::due_day` meets its contract: the slot's volume has its last day in the table, and the slot's day then.
use Rattle.book.specs.Layout.{told}
use Rattle.due.proofs.LastLaws.{last-bound, due-is, lasts-next}
use Rattle.due.proofs.SlotReads.{SlotRead, slot_read}
use native.Mathlib.Omega.{arith}
use Rattle.due.proofs.lasts.due_day.Goals as goal

pub bounds-lasts-at : goal.bounds-lasts-at
bounds-lasts-at c =
    let known : SlotRead (told c.args.book) c.slot_at-slot.result = slot_read c.requires.holds.0 c.requires.holds.1 c.args.q c.requires.q_in_bounds.0 c.slot_at-slot.ensures in
    omega (arith, known)

pub bounds-lasts-at-2 : goal.bounds-lasts-at-2
bounds-lasts-at-2 c =
    let known : SlotRead (told c.args.book) c.slot_at-slot.result = slot_read c.requires.holds.0 c.requires.holds.1 c.args.q c.requires.q_in_bounds.0 c.slot_at-slot.ensures in
    omega (arith, known)

pub retention-requires : goal.retention-requires
retention-requires c =
    let known : SlotRead (told c.args.book) c.slot_at-slot.result = slot_read c.requires.holds.0 c.requires.holds.1 c.args.q c.requires.q_in_bounds.0 c.slot_at-slot.ensures in
    record { holds = c.requires.holds.0; v_lt_volumes = known.volume }

-- stands above the need of the sum, so that of a wrong day the first error says what it is not
pub returns : goal.returns
returns c =
    let known : SlotRead (told c.args.book) c.slot_at-slot.result = slot_read c.requires.holds.0 c.requires.holds.1 c.args.q c.requires.q_in_bounds.0 c.slot_at-slot.ensures in
    let i = c.slot_at-slot.ensures in
    record { value = due-is _ c.args.q c.requires.q_in_bounds.0 c.requires.q_in_bounds.1 i.volume known.volume (omega arith) c.retention.ensures; lasts_are = lasts-next _ c.args.q c.requires.q_in_bounds.0 c.requires.q_in_bounds.1 i.volume known.volume (omega (arith, i)) }

pub overflow_add-result : goal.overflow_add-result
overflow_add-result c =
    let known : SlotRead (told c.args.book) c.slot_at-slot.result = slot_read c.requires.holds.0 c.requires.holds.1 c.args.q c.requires.q_in_bounds.0 c.slot_at-slot.ensures in
    let last = last-bound _ c.args.q c.requires.q_in_bounds.0 c.requires.q_in_bounds.1 c.slot_at-slot.ensures.volume known.volume c.requires.holds.1 in
    omega (arith, last, known, c.retention.ensures)
