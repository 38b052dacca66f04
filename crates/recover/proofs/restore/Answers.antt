-- `recover::restore` meets its contract: the checks in their order, each by what its function ensures.
use mathlib.Core.Path.{sym}
use Rattle.std.proofs.lemmas.Result.{err_from_is_err_and}
use Rattle.words.proofs.Refused.{number-not_zero}
use Rattle.book.proofs.FormFactLaws.{form-facts}
use Rattle.buffers.proofs.BuffersLaws.{buffers_facts}
use Rattle.keeping.proofs.KeptLaws.{kept-volume}
use Rattle.recover.proofs.Exits.{restored_buffers, restored_unkept, restored_kept}
use Rattle.recover.proofs.restore.Goals as goal

pub returns-in_err-check : goal.returns-in_err-check
returns-in_err-check c =
    let p = err_from_is_err_and c.from_residual.result c.from_residual.ensures.1 in
    rw (p.1, p.2) (restored_buffers _ _ _ _ _ _ _ c.in_err-check.ensures (number-not_zero _))

pub kept_backup-requires : goal.kept_backup-requires
kept_backup-requires c = form-facts _ (λ i. (c.type_inv.book i).fits) (buffers_facts _ _ (sym c.in_ok-check.ensures)).0

pub returns-in_err-at : goal.returns-in_err-at
returns-in_err-at c =
    let p = err_from_is_err_and c.from_residual-in_err-at.result c.from_residual-in_err-at.ensures.1 in
    rw (p.1, p.2)
    (restored_unkept _ _ _ _ _ _ c.args.out.now (sym c.in_ok-check.ensures) c.in_err-at.ensures (number-not_zero _))

pub restore_before-requires : goal.restore_before-requires
restore_before-requires c =
    let facts = buffers_facts _ _ (sym c.in_ok-check.ensures) in
    record {
      form_facts = form-facts _ (λ i. (c.type_inv.book i).fits) facts.0;
      volume_lt_volumes = (kept-volume _ _ _ c.in_ok-at.ensures.0, facts.1);
    }

pub returns : goal.returns
returns c =
    restored_kept _ _ _ _ _ _ c.args.out.now (sym c.in_ok-check.ensures) _ c.in_ok-at.ensures c.restore_before.ensures
