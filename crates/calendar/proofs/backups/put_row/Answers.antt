-- `calendar::backups::put_row` meets its contract: four numbers, one after the other, or nothing of a retire slot.
use Prim.Native.Nat.{◌+◌, ◌≤◌}
use mathlib.Core.Path.{ap}
use mathlib.Core.Bool.{Bool}
use native.Mathlib.Omega.{arith}
use lib.ListN.{length}
use Rattle.words.specs.Lists.{bit}
use Rattle.book.proofs.Conditions.{slot_in}
use Rattle.book.specs.Layout.{told}
use Rattle.calendar.specs.Row.{row_size}
use Rattle.calendar.proofs.RowLaws.{row-stored, row-none, row-length}
use borrow.Author.Rules.{rules}
use Rattle.calendar.proofs.backups.put_row.Goals as goal

pub returns-then-slot : goal.returns-then-slot
returns-then-slot c =
    let a = c.args in
    row-none (told a.book) a.q a.next a.days c.slot_at-slot.ensures c.if-slot.true

-- in a book in form no slot's day is above the header's
pub kept_until-until-requires : goal.kept_until-until-requires
kept_until-until-requires c =
    let p = c.requires.form_facts.parts in
    let taken = (slot_in (told c.args.book) p c.args.q c.requires.q_in_bounds.0).1 in
    record { form_facts = c.requires.form_facts; taken_bound = (omega (arith, taken, p.day, c.slot_at-slot.ensures.day), omega arith) }

pub returns : goal.returns
returns c =
    let a = c.args in
    row-stored (told a.book) a.q a.next a.days c.slot_at-slot.ensures c.if-slot.false
    c.kept_until-until.ensures (ap (λ (t : Bool). bit t) c.is_kept-kept.ensures) c.put_three.ensures
    c.put_u16.ensures

pub put_three-requires : goal.put_three-requires
put_three-requires c =
    let room : (let a = c.args in a.at + row_size ≤ length a.out.now) =
    let a = c.args in
    omega (arith, c.requires.days_in_bounds, row-length (told a.book) a.q a.next a.days c.slot_at-slot.ensures c.if-slot.false)
    in
    let h = room in search (rules, h)

pub overflow_add-at : goal.overflow_add-at
overflow_add-at c =
    let room : (let a = c.args in a.at + row_size ≤ length a.out.now) =
    let a = c.args in
    omega (arith, c.requires.days_in_bounds, row-length (told a.book) a.q a.next a.days c.slot_at-slot.ensures c.if-slot.false)
    in
    omega (arith, room)

pub put_u16-requires : goal.put_u16-requires
put_u16-requires c =
    let room : (let a = c.args in a.at + row_size ≤ length a.out.now) =
    let a = c.args in
    omega (arith, c.requires.days_in_bounds, row-length (told a.book) a.q a.next a.days c.slot_at-slot.ensures c.if-slot.false)
    in
    let h = room in search (rules, h)

pub overflow_add-result : goal.overflow_add-result
overflow_add-result c =
    let room : (let a = c.args in a.at + row_size ≤ length a.out.now) =
    let a = c.args in
    omega (arith, c.requires.days_in_bounds, row-length (told a.book) a.q a.next a.days c.slot_at-slot.ensures c.if-slot.false)
    in
    omega (arith, room)
