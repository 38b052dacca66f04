-- `answers::answer_collect` meets its contract.
use Rattle.answers.proofs.Doing.{collect_did}
use Rattle.answers.proofs.answer_collect.Goals as goal

pub returns-in-Ok : goal.returns-in-Ok
returns-in-Ok c spare pool =
    let a = c.args in
    collect_did spare _ pool a.answers.now a.to a.day _ c.in-Ok.ensures c.tell.ensures

pub returns-in-Err : goal.returns-in-Err
returns-in-Err c spare pool =
    let a = c.args in
    collect_did spare _ pool a.answers.now a.to a.day _ c.in-Err.ensures c.tell_refusal.ensures
