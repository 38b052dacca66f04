-- `cells`: each way out is one of the definition, and the row that is copied is the volume's map.
use mathlib.Core.Path.{sym}
use native.Mathlib.Omega.{arith}
use Rattle.std.proofs.lemmas.Result.{err_from_is_err_and}
use Rattle.words.proofs.Refused.{number-not_zero}
use Rattle.book.proofs.FormBytes.{holds-form}
use Rattle.claims.proofs.views.EnrolledNumber.{passed-enrolled}
use Rattle.model.specs.Views.{cells_of}
use Rattle.rows.proofs.Exits.{cells-refused, cells-short, cells-done}
use Rattle.rows.proofs.cells.cells.Goals as goal

pub returns-in_err-check : goal.returns-in_err-check
returns-in_err-check c =
    let p = err_from_is_err_and c.from_residual.result c.from_residual.ensures.1 in
    rw (p.1, p.2) (cells-refused _ _ _ c.in_err-check.ensures (number-not_zero _))

pub row-row-requires : goal.row-row-requires
row-row-requires c =
    let e = passed-enrolled _ _ (sym c.in_ok-check.ensures) in
    record { holds = holds-form _ (λ i. (c.type_inv.book i).fits) e.form; v_lt_volumes = omega (arith, e.inside) }

pub returns-then-out-row : goal.returns-then-out-row
unfolding cells_of
returns-then-out-row c = cells-short _ _ _ (sym c.in_ok-check.ensures) c.row-row.ensures (omega arith)

pub returns : goal.returns
unfolding cells_of
returns c = cells-done _ _ _ (sym c.in_ok-check.ensures) c.row-row.ensures (omega arith) c.put_bytes.ensures
