-- `answers::answer_audit` meets its contract.
use Rattle.std.specs.Prelude.{Ok, Err}
use Rattle.answers.proofs.Doing.{audit_did}
use Rattle.answers.proofs.answer_audit.Goals as goal

pub returns-in-Ok : goal.returns-in-Ok
returns-in-Ok c spare pool =
    let a = c.args in
    audit_did spare _ pool a.answers.now a.to (Ok c.in-Ok.sound) c.in-Ok.ensures (rw c.from.ensures at c.tell.ensures)

pub returns-in-Err : goal.returns-in-Err
returns-in-Err c spare pool =
    let a = c.args in
    audit_did spare _ pool a.answers.now a.to (Err c.in-Err.refusal) c.in-Err.ensures c.tell_refusal.ensures
