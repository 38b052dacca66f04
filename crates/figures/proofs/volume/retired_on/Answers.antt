use Prim.Native.Nat.{◌<◌}
use mathlib.Core.Path.{sym, ap, ◌∙◌}
use mathlib.Core.List.{List}
use native.Mathlib.Omega.{arith}
use lib.ListN.{length}
use Rattle.book.specs.Layout.{told}
use Rattle.model.specs.Journal.{Backup}
use Rattle.model.specs.Views.{retired_on}
use Rattle.claims.proofs.kept.JournalAtLaws.{from_start}
use Rattle.figures.proofs.Passed.{retired-here, retired-later, retired-never}
use Rattle.figures.proofs.volume.retired_on.Goals as goal

pub loop-q-init : goal.loop-q-init
loop-q-init c = ap (λ (bs : List Backup). retired_on bs) (sym (from_start _ _))

pub returns-then-slot-v : goal.returns-then-slot-v
returns-then-slot-v c =
    let l = c.loop-q in
    let h : l.q < length (told c.args.book).slots = omega arith in
    retired-here _ _ l.q c.slot_at-slot.result c.slot_at-slot.ensures h c.if-slot-v.true ∙ sym l.invariant

pub loop-q-preserved : goal.loop-q-preserved
loop-q-preserved c =
    let l = c.loop-q in
    let h : l.q < length (told c.args.book).slots = omega arith in
    l.invariant ∙ retired-later _ _ l.q c.slot_at-slot.result c.slot_at-slot.ensures h c.if-slot-v.false

pub returns : goal.returns
returns c =
    let l = c.loop-q in
    retired-never _ _ l.q (omega arith) ∙ sym l.invariant
