-- `figures::enrolled::check` meets its contract: each way out is one of the definition.
use mathlib.Core.Path.{sym, ◌∙◌}
use native.Mathlib.Omega.{arith}
use Rattle.std.proofs.lemmas.Result.{err_from_is_err_and}
use Rattle.words.proofs.Refused.{number-not_zero}
use Rattle.book.proofs.FormBytes.{holds-form}
use Rattle.claims.proofs.views.EnrolledNumber.{enrolled_misformed, enrolled-above, enrolled_not, enrolled-passed}
use Rattle.figures.proofs.enrolled.check.Goals as goal

pub returns-in_err-check : goal.returns-in_err-check
returns-in_err-check c =
    let p = err_from_is_err_and c.from_residual.result c.from_residual.ensures.1 in
    rw (p.1, p.2) (enrolled_misformed _ _ c.in_err-check.ensures (number-not_zero _))

pub returns-then-volume-gt-LAST_VOLUME : goal.returns-then-volume-gt-LAST_VOLUME
returns-then-volume-gt-LAST_VOLUME c = enrolled-above _ _ (sym c.in_ok-check.ensures) (omega arith)

pub retention-requires-clause-holds : goal.retention-requires-clause-holds
retention-requires-clause-holds c = holds-form _ (λ i. (c.type_inv.book i).fits) (sym c.in_ok-check.ensures)

pub returns-then-retention-eq0 : goal.returns-then-retention-eq0
returns-then-retention-eq0 c =
    enrolled_not _ _ (sym c.in_ok-check.ensures) (sym c.retention.ensures ∙ c.if-retention-eq0.true)

pub returns : goal.returns
returns c =
    enrolled-passed _ _ (sym c.in_ok-check.ensures) (omega arith) (λ z. c.if-retention-eq0.false (c.retention.ensures ∙ z))
