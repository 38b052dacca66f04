-- `restorer::read::locate` meets its contract: the checks in their order, each by what its function ensures.
use mathlib.Core.Path.{sym, ◌∙◌}
use Rattle.std.proofs.lemmas.Result.{err_from_is_err_and}
use Rattle.book.proofs.FormFactLaws.{form-facts}
use Rattle.buffers.proofs.BuffersLaws.{buffers_facts}
use Rattle.keeping.proofs.KeptLaws.{kept-volume}
use Rattle.restorer.proofs.ReadingLaws.{sought_before, sought_refused}
use Rattle.restorer.proofs.ReadCalls.{sought_stopped, sought_on}
use Rattle.restorer.proofs.read.locate.Goals as goal

pub returns-in_err-check : goal.returns-in_err-check
returns-in_err-check c =
    let p = err_from_is_err_and c.from_residual.result c.from_residual.ensures.1 in
    rw (p.1, p.2) (sought_stopped _ _ _ _ _ _ c.in_err-check.ensures)

pub kept_backup-requires : goal.kept_backup-requires
kept_backup-requires c = form-facts _ (λ i. (c.type_inv.book i).fits) (buffers_facts _ _ (sym c.in_ok-check.ensures)).0

pub returns-in_err-at : goal.returns-in_err-at
returns-in_err-at c =
    let p = err_from_is_err_and c.from_residual-in_err-at.result c.from_residual-in_err-at.ensures.1 in
    rw (p.1, p.2)
    (sym (sought_on _ _ _ _ _ (sym c.in_ok-check.ensures) ∙ sought_refused _ _ _ _ _ c.in_err-at.ensures))

pub block_before-requires : goal.block_before-requires
block_before-requires c = record {
  form_facts = form-facts _ (λ i. (c.type_inv.book i).fits) (buffers_facts _ _ (sym c.in_ok-check.ensures)).0;
  v_lt_volumes = kept-volume _ _ _ c.in_ok-at.ensures.0;
}

pub returns : goal.returns
returns c =
    c.block_before.ensures
    ∙ sym (sought_on _ _ _ _ _ (sym c.in_ok-check.ensures) ∙ sought_before _ _ _ _ _ c.in_ok-at.ensures)
