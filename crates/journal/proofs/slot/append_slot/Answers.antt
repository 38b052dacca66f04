-- `journal::slot::append_slot`: what the two stores left, by `is-slot`.
use Prim.Native.Nat.{ℕ}
use mathlib.Core.Path.{◌∙◌, ap}
use native.Mathlib.Omega.{arith}
use Rattle.book.specs.Layout.{slot_offset, book_of}
use Rattle.book.proofs.Write.{is-slot}
use Rattle.journal.proofs.slot.append_slot.Goals as goal

pub returns : goal.returns
returns c =
    let used = c.used_slots-used in
    let at = c.slot_offset-at in
    let a = c.args in
    is-slot c.requires.holds (record { volume = a.volume; retire = a.retire; day = a.day; first = a.first; number = a.number })
    at.result _ c.requires.book_len_bound.0
    (at.ensures.value ∙ ap (λ (q : ℕ). slot_offset (book_of a.book.now).sizes q) used.ensures)
    (omega arith)
    c.put_slot.ensures
    c.put_u16.ensures
