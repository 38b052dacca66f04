-- `imager::undo_slot` meets its contract: in a book in form a slot's pair names its records.
use Prim.Native.Nat.{◌+◌, ◌≤◌}
use native.Mathlib.Omega.{arith}
use lib.ListN.{length}
use Rattle.book.proofs.Conditions.{pairs_in}
use Rattle.book.specs.Layout.{told}
use Rattle.imager.proofs.ImagingLaws.{undone_own, undone_other}
use Rattle.imager.proofs.undo_slot.Goals as goal

pub returns-then-volume-v : goal.returns-then-volume-v
returns-then-volume-v c = undone_other _ _ _ c.slot_at-slot.ensures (λ e. omega arith)

pub overflow_add-end : goal.overflow_add-end
overflow_add-end c =
    let room : c.slot_at-slot.result.first + c.slot_at-slot.result.number ≤ length (told c.args.book).records =
    let p = c.requires in
    let x = told c.args.book in
    let i = c.slot_at-slot.ensures in
    omega (arith, pairs_in x.slots 0 (length x.records) p.form_facts.parts.pairs c.args.q p.q_in_bounds, i.first, i.number)
    in
    omega (arith, room, c.requires.form_facts.holds.records, c.requires.form_facts.holds.j)

pub undo_records-requires : goal.undo_records-requires
undo_records-requires c =
    let room : c.slot_at-slot.result.first + c.slot_at-slot.result.number ≤ length (told c.args.book).records =
    let p = c.requires in
    let x = told c.args.book in
    let i = c.slot_at-slot.ensures in
    omega (arith, pairs_in x.slots 0 (length x.records) p.form_facts.parts.pairs c.args.q p.q_in_bounds, i.first, i.number)
    in
    let p = c.requires in
    record { form_facts = p.form_facts; first_le_end = (omega arith, room) }

pub returns : goal.returns
returns c =
    let p = c.requires in
    undone_own _ _ _ c.slot_at-slot.ensures p.form_facts.parts.pairs p.q_in_bounds (omega arith) c.undo_records.ensures
