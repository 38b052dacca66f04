-- `answers::answer_backup` meets its contract.
use Rattle.answers.proofs.Doing.{backup_did}
use Rattle.answers.proofs.AnswersLaid.{answered-three}
use Rattle.answers.proofs.answer_backup.Goals as goal

pub returns-in-Ok : goal.returns-in-Ok
returns-in-Ok c =
    let a = c.args in
    backup_did _ _ _ a.v a.day _ a.answers.now a.to _ c.in-Ok.ensures
    (answered-three a.answers.now a.to 1 _ _ _ c.put_three.ensures)

pub returns-in-Err : goal.returns-in-Err
returns-in-Err c =
    let a = c.args in
    backup_did _ _ _ a.v a.day _ a.answers.now a.to _ c.in-Err.ensures c.tell_refusal.ensures
