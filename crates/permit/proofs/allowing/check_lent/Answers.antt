-- Each way out by a law of numbers 1 to 4.
use mathlib.Core.Path.{sym}
use Rattle.std.proofs.lemmas.Result.{err_from_is_err_and}
use Rattle.words.proofs.Refused.{number-not_zero}
use Rattle.permit.proofs.AllowLaws.{lent-first, lent_four, lent_none}
use Rattle.permit.proofs.allowing.check_lent.Goals as goal

pub returns-in_err-check : goal.returns-in_err-check
returns-in_err-check c =
    let p = err_from_is_err_and c.from_residual.result c.from_residual.ensures.1 in
    rw (p.1, p.2) (lent-first _ _ _ _ c.in_err-check.ensures (number-not_zero _))

pub returns-then-spare-book : goal.returns-then-spare-book
returns-then-spare-book c = lent_four _ _ _ (sym c.in_ok-check.ensures) c.if-spare-book.true

pub returns : goal.returns
returns c = lent_none _ _ _ (sym c.in_ok-check.ensures) c.if-spare-book.false
