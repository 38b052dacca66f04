-- `answers::answer_read` meets its contract.
use native.Mathlib.Omega.{arith}
use Rattle.std.proofs.Common.{rules}
use Rattle.answers.proofs.Blocks.{placed_inside}
use Rattle.answers.proofs.Doing.{read-refused, read_done}
use Rattle.answers.proofs.answer_read.Goals as goal

pub slice_bounds-put_bytes-end : goal.slice_bounds-put_bytes-end
slice_bounds-put_bytes-end c =
    let in_pool = placed_inside _ _ _ _ _ _ c.in-Ok.ensures in
    omega arith

pub overflow_add-from : goal.overflow_add-from
overflow_add-from c =
    let in_pool = placed_inside _ _ _ _ _ _ c.in-Ok.ensures in
    search (rules, in_pool)

pub returns-in-Ok : goal.returns-in-Ok
returns-in-Ok c spare =
    let a = c.args in
    read_done spare _ _ a.answers.now a.to a.v a.number a.lbn _ c.in-Ok.ensures c.put_bytes.ensures

pub returns-in-Err : goal.returns-in-Err
returns-in-Err c spare =
    let a = c.args in
    read-refused spare _ _ a.answers.now a.to a.v a.number a.lbn _ c.in-Err.ensures c.tell_refusal.ensures
