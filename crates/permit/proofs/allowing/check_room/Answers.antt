-- Each way out by a law of numbers 9 and 10.
use Prim.Native.Nat.{◌<◌}
use native.Mathlib.Omega.{arith}
use lib.ListN.{length}
use Rattle.book.specs.Layout.{book_of}
use Rattle.permit.proofs.AllowLaws.{room-nine, room_ten, room-none}
use Rattle.permit.proofs.allowing.check_room.Goals as goal

pub returns-then-slots-used_slots : goal.returns-then-slots-used_slots
returns-then-slots-used_slots c =
    let a = c.args in
    room-nine (book_of a.book.now) a.changes
    (omega (arith, c.slots.ensures, c.used_slots.ensures, c.if-slots-used_slots.true))

pub returns-then-journal-used_records : goal.returns-then-journal-used_records
returns-then-journal-used_records c =
    let slot : (let x = book_of c.args.book.now in
    length x.slots < x.sizes.s) = omega (arith, c.slots.ensures, c.used_slots.ensures, c.if-slots-used_slots.false) in
    let a = c.args in
    room_ten (book_of a.book.now) a.changes slot
    (omega (arith, c.journal.ensures, c.used_records.ensures, c.if-journal-used_records.true))

pub returns : goal.returns
returns c =
    let slot : (let x = book_of c.args.book.now in
    length x.slots < x.sizes.s) = omega (arith, c.slots.ensures, c.used_slots.ensures, c.if-slots-used_slots.false) in
    let a = c.args in
    room-none (book_of a.book.now) a.changes slot
    (omega (arith, c.journal.ensures, c.used_records.ensures, c.if-journal-used_records.false))
