-- `figures::volume::volume` meets its contract: each way out is one of the definition.
use mathlib.Core.Path.{sym}
use Rattle.std.proofs.lemmas.Result.{err_from_is_err_and}
use Rattle.book.proofs.FormBytes.{holds-form}
use Rattle.claims.proofs.views.EnrolledNumber.{passed-enrolled}
use Rattle.figures.proofs.Exits.{volume-refused, volume-given}
use Rattle.figures.proofs.volume.volume.Goals as goal

pub returns-in_err-check : goal.returns-in_err-check
returns-in_err-check c =
    let p = err_from_is_err_and c.from_residual.result c.from_residual.ensures.1 in
    rw (p.1, p.2) (volume-refused _ _ _ c.in_err-check.ensures)

pub retention-requires : goal.retention-requires
retention-requires c =
    let e = passed-enrolled _ _ (sym c.in_ok-check.ensures) in
    record { holds = holds-form _ (λ i. (c.type_inv.book i).fits) e.form; v_lt_volumes = e.inside }

pub count_backups-requires : goal.count_backups-requires
count_backups-requires c =
    holds-form _ (λ i. (c.type_inv.book i).fits) (passed-enrolled _ _ (sym c.in_ok-check.ensures)).form

pub retired_on-requires : goal.retired_on-requires
retired_on-requires c =
    holds-form _ (λ i. (c.type_inv.book i).fits) (passed-enrolled _ _ (sym c.in_ok-check.ensures)).form

pub returns : goal.returns
returns c =
    volume-given _ _ _ (sym c.in_ok-check.ensures) c.retention.ensures c.count_backups.ensures c.retired_on.ensures
