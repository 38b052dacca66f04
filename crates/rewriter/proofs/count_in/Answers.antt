-- `rewriter::count_in`: one byte in layout 1, two in any other.
use native.Mathlib.Omega.{arith}
use borrow.Author.Tests.{eq-eqb, ne_eqb}
use Rattle.rewriter.proofs.count_in.Goals as goal

pub returns-then-layout-eq-NARROW_LAYOUT : goal.returns-then-layout-eq-NARROW_LAYOUT
returns-then-layout-eq-NARROW_LAYOUT c =
    let a = c.args in
    rw (eq-eqb a.layout 1 (omega arith)) c.from.ensures

pub returns : goal.returns
returns c =
    let a = c.args in
    rw (ne_eqb a.layout 1 (λ e. omega arith)) c.u16_at.ensures
