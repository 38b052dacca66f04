use mathlib.Core.Path.{sym, ◌∙◌}
use native.Mathlib.Omega.{arith}
use Rattle.book.specs.Layout.{told}
use Rattle.restorer.proofs.BeforeLaws.{later-here, later-next, later-none}
use Rattle.restorer.proofs.image.later_before.Goals as goal

pub returns-then-is_some : goal.returns-then-is_some
returns-then-is_some c =
    let some = sym c.is_some.ensures ∙ c.if-is_some.true in
    sym (c.loop-q.invariant ∙ later-here _ _ _ _ c.slot_before-found.ensures (omega arith) some)

pub loop-q-preserved : goal.loop-q-preserved
loop-q-preserved c =
    let none = sym c.is_some.ensures ∙ c.if-is_some.false in
    c.loop-q.invariant ∙ later-next _ _ _ _ c.slot_before-found.ensures (omega arith) none

pub returns : goal.returns
returns c =
    let l = c.loop-q in
    let a = c.args in
    sym (l.invariant ∙ later-none (told a.book) a.v l.q a.lbn.0 (omega arith))
