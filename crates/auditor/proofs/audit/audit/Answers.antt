-- `auditor::audit::audit` meets its contract: a refused book has its number, and of any other the answer is that of the passes.
use mathlib.Core.Path.{sym, ap}
use Rattle.std.proofs.lemmas.Result.{err_from_is_err_and}
use Rattle.words.specs.Outcome.{accepted}
use Rattle.words.proofs.Refused.{unless-refusal}
use Rattle.book.specs.Layout.{book_of}
use Rattle.book.proofs.FormFactLaws.{form-facts}
use Rattle.model.specs.Audit.{audit}
use Rattle.model.specs.OnBytes.{audit_bytes}
use Rattle.auditor.proofs.audit.audit.Goals as goal

pub returns-in_err-check : goal.returns-in_err-check
unfolding audit_bytes
returns-in_err-check c =
    let p = err_from_is_err_and c.from_residual.result c.from_residual.ensures.1 in
    rw (p.1, p.2) (sym (unless-refusal _ (accepted (audit (book_of c.args.book.now))) c.in_err-check.ensures))

pub is_sound-requires : goal.is_sound-requires
is_sound-requires c = form-facts _ (λ i. (c.type_inv.book i).fits) (sym c.in_ok-check.ensures)

pub returns : goal.returns
unfolding audit_bytes
returns c = rw (← c.in_ok-check.ensures) (ap accepted c.is_sound.ensures)
