-- `answers::answer_retire` meets its contract.
use Rattle.answers.proofs.Doing.{retire_did}
use Rattle.answers.proofs.answer_retire.Goals as goal

pub returns-in-Ok : goal.returns-in-Ok
returns-in-Ok c pool =
    let a = c.args in
    retire_did _ _ a.v a.day pool a.answers.now a.to _ c.in-Ok.ensures c.tell.ensures

pub returns-in-Err : goal.returns-in-Err
returns-in-Err c pool =
    let a = c.args in
    retire_did _ _ a.v a.day pool a.answers.now a.to _ c.in-Err.ensures c.tell_refusal.ensures
