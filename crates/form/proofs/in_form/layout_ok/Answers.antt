-- `form::in_form::layout_ok` meets its contract, by `layout_tests`.
use mathlib.Core.Path.{ap}
use borrow.Author.Tests.{lt-leb}
use Rattle.book.specs.Form.{layout_as}
use Rattle.sections.proofs.CheckLaws.{layout_tests}
use Rattle.form.proofs.in_form.layout_ok.Goals as goal

pub returns-then-b-lt-HEADER_SIZE : goal.returns-then-b-lt-HEADER_SIZE
unfolding layout_as
returns-then-b-lt-HEADER_SIZE c = rw (lt-leb _ _ c.if-b-lt-HEADER_SIZE.true)

pub returns : goal.returns
returns c =
    let a = c.args in
    let e = c.of-sizes.ensures in
    layout_tests a.layout a.b.now c.if-b-lt-HEADER_SIZE.false (ap (λ z. z.n) e)
    (ap (λ z. z.l) e) (ap (λ z. z.s) e) (ap (λ z. z.j) e)
    c.u16_at.ensures c.in_range.ensures c.size_as.ensures
