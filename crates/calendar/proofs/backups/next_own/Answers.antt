use mathlib.Core.Path.{◌∙◌}
use native.Mathlib.Omega.{arith}
use Rattle.book.specs.Layout.{told}
use Rattle.claims.proofs.kept.JournalAtLaws.{from-other}
use Rattle.calendar.proofs.backups.next_own.Goals as goal

pub loop-r-preserved : goal.loop-r-preserved
loop-r-preserved c =
    let l = c.loop-r in
    let a = c.args in
    let x = told a.book in
    let other = from-other x a.v l.r (omega arith) (λ e. c.if-slot-v.false (c.slot_at-slot.ensures.volume ∙ e)) in
    l.invariant ∙ other
