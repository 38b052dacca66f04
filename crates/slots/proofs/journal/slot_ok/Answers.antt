-- `slots::journal::slot_ok` meets its contract: a volume above 7 fails, any other goes by `slot_tests`.
use mathlib.Core.Path.{sym}
use native.Mathlib.Omega.{arith}
use Rattle.slots.proofs.SlotLaws.{slot-above, slot_tests}
use Rattle.slots.proofs.journal.slot_ok.Goals as goal

pub returns-then-v-ge-VOLUMES : goal.returns-then-v-ge-VOLUMES
returns-then-v-ge-VOLUMES c =
    let a = c.args in
    sym (slot-above a.b.now a.at a.lasts.now a.gone.now a.prev a.next (omega arith))

pub returns : goal.returns
returns c =
    let a = c.args in
    slot_tests a.b.now a.at a.lasts.now a.gone.now a.prev a.next a.layout (omega arith)
    c.from-v.ensures c.u16_at-day.ensures c.u16_at-enrolled.ensures c.u16_at-first.ensures
    c.requires.layout_value.0 c.requires.layout_value.1 (omega arith) (omega arith)
