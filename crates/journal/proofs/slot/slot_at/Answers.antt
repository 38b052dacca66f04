-- `journal::slot::slot_at`: the four numbers and the second byte at their offsets, by `slot-at`.
use mathlib.Core.Path.{◌∙◌, ap}
use Rattle.book.specs.Book.{Slot}
use Rattle.book.proofs.Read.{slot-at}
use Rattle.journal.proofs.slot.slot_at.Goals as goal

pub returns : goal.returns
returns c =
    let at = c.slot_offset-at in
    let e = slot-at c.args.book.now c.args.q at.result c.requires.q_in_bounds at.ensures.value in
    record {
      volume = c.from.ensures ∙ ap (λ (t : Slot). t.volume) e;
      retire = ap (λ (t : Slot). t.retire) e;
      day = c.u16_at.ensures ∙ ap (λ (t : Slot). t.day) e;
      first = c.u16_at-2.ensures ∙ ap (λ (t : Slot). t.first) e;
      number = c.u16_at-3.ensures ∙ ap (λ (t : Slot). t.number) e;
    }
