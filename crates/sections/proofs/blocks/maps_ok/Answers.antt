use mathlib.Core.Path.{sym, ap, ◌∙◌}
use native.Mathlib.Omega.{arith}
use Rattle.words.proofs.Each.{each_none, each-grow}
use Rattle.book.specs.Form.{pbn_ok}
use Rattle.sections.specs.Checks.{maps_ok}
use Rattle.sections.proofs.blocks.maps_ok.Goals as goal

pub loop-c-init : goal.loop-c-init
unfolding maps_ok
loop-c-init c = sym (each_none _ _ _ (omega arith))

pub loop-c-preserved : goal.loop-c-preserved
unfolding maps_ok
loop-c-preserved c =
    let l = c.loop-c in
    let a = c.args in
    let test = c.pbn_ok-good.ensures ∙ ap (pbn_ok a.n) c.u16_at.ensures in
    each-grow _ _ _ (omega arith) l.invariant test
