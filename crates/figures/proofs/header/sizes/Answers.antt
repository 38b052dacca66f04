-- `figures::header::sizes` meets its contract: each way out is one of the definition.
use mathlib.Core.Path.{sym}
use Rattle.std.proofs.lemmas.Result.{err_from_is_err_and}
use Rattle.book.proofs.FormNumber.{form-parts, layout-facts}
use Rattle.book.specs.Layout.{current}
use Rattle.figures.proofs.Exits.{sizes-refused, sizes-given}
use Rattle.figures.proofs.header.sizes.Goals as goal

pub returns-in_err-check : goal.returns-in_err-check
returns-in_err-check c =
    let p = err_from_is_err_and c.from_residual.result c.from_residual.ensures.1 in
    rw (p.1, p.2) (sizes-refused _ _ c.in_err-check.ensures)

pub of-sizes-requires : goal.of-sizes-requires
of-sizes-requires c = (layout-facts current _ (form-parts current _ (sym c.in_ok-check.ensures)).0).header

pub returns : goal.returns
returns c = sizes-given _ _ (sym c.in_ok-check.ensures) c.of-sizes.ensures
