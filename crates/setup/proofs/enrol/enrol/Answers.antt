-- `setup::enrol::enrol` meets its contract: each way out is one of the definition.
use mathlib.Core.Path.{refl, sym}
use Rattle.std.proofs.Common.{rules}
use Rattle.std.proofs.lemmas.Result.{err_from_is_err_and}
use Rattle.words.proofs.Refused.{number-not_zero}
use Rattle.book.proofs.FormBytes.{holds-form}
use Rattle.claims.proofs.agreement.EnrolAgree.{enrol-volume}
use Rattle.setup.proofs.EnrolExits.{enrol_misformed, enrol-refused, enrol-done}
use Rattle.setup.proofs.enrol.enrol.Goals as goal

pub returns-in_err-check : goal.returns-in_err-check
returns-in_err-check c =
    let p = err_from_is_err_and c.from_residual.result c.from_residual.ensures.1 in
    rw (p.1, p.2) (enrol_misformed _ _ _ refl _ c.in_err-check.ensures (number-not_zero _))

pub check-requires-2 : goal.check-requires-2
check-requires-2 c = holds-form _ (λ i. search rules) (sym c.in_ok-check.ensures)

pub returns-in_err-check-2 : goal.returns-in_err-check-2
returns-in_err-check-2 c =
    let r = c.from_residual-in_err-check-2 in
    let p = err_from_is_err_and r.result r.ensures.1 in
    rw (p.1, p.2) (enrol-refused _ _ _ refl (sym c.in_ok-check.ensures) _ c.in_err-check-2.ensures (number-not_zero _))

pub set_retention-requires : goal.set_retention-requires
set_retention-requires c =
    record {
      holds = holds-form _ (λ i. search rules) (sym c.in_ok-check.ensures);
      v_lt_volumes = (enrol-volume _ _ _ (sym c.in_ok-check-2.ensures)).0;
    }

pub returns : goal.returns
returns c = enrol-done _ _ _ (sym c.in_ok-check.ensures) (sym c.in_ok-check-2.ensures) c.set_retention.ensures
