-- `figures::header::used` meets its contract: each way out is one of the definition.
use mathlib.Core.Path.{sym}
use Rattle.std.proofs.lemmas.Result.{err_from_is_err_and}
use Rattle.book.proofs.FormBytes.{holds-form}
use Rattle.figures.proofs.Exits.{used-refused, used-given}
use Rattle.figures.proofs.header.used.Goals as goal

pub returns-in_err-check : goal.returns-in_err-check
returns-in_err-check c =
    let p = err_from_is_err_and c.from_residual.result c.from_residual.ensures.1 in
    rw (p.1, p.2) (used-refused _ _ c.in_err-check.ensures)

pub used_slots-requires : goal.used_slots-requires
used_slots-requires c = holds-form _ (λ i. (c.type_inv.book i).fits) (sym c.in_ok-check.ensures)

pub used_records-requires : goal.used_records-requires
used_records-requires c = holds-form _ (λ i. (c.type_inv.book i).fits) (sym c.in_ok-check.ensures)

pub day-requires : goal.day-requires
day-requires c = holds-form _ (λ i. (c.type_inv.book i).fits) (sym c.in_ok-check.ensures)

pub returns : goal.returns
returns c =
    used-given _ _ (sym c.in_ok-check.ensures) c.used_slots.ensures c.used_records.ensures c.day.ensures
