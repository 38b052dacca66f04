-- `answers::answer_restore` meets its contract: what was restored stands in its part of the answers, or they are as they were.
use Prim.Native.Nat.{◌+◌, ◌*◌}
use mathlib.Core.Path.{refl}
use native.Mathlib.Omega.{arith}
use Rattle.words.proofs.Refused.{number-not_zero}
use Rattle.answers.proofs.AnswersLaid.{lent_length}
use Rattle.answers.proofs.Restoring.{restore-refused, restore-done}
use Rattle.answers.proofs.answer_restore.Goals as goal

pub returns-in-Ok : goal.returns-in-Ok
returns-in-Ok c spare =
    let a = c.args in
    let room = lent_length a.answers.now (a.to + 3) (a.many * 512) c.requires in
    restore-done spare a.book.now a.pool.now a.v a.number a.first a.many _ c.restore.new.out _ room
    c.in-Ok.ensures a.answers.now a.to c.requires refl refl c.restore.auto.out c.tell.ensures (omega arith)

pub returns-in-Err : goal.returns-in-Err
returns-in-Err c spare =
    let a = c.args in
    let room = lent_length a.answers.now (a.to + 3) (a.many * 512) c.requires in
    restore-refused spare a.book.now a.pool.now a.v a.number a.first a.many _ c.restore.new.out _ room
    c.in-Err.ensures a.answers.now a.to c.requires refl (number-not_zero c.in-Err.refusal) c.tell_refusal.ensures
