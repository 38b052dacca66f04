-- `heads::head::call_end`: the head and the data lie within the bytes.
use native.Mathlib.Omega.{arith}
use Rattle.calls.proofs.ReadingLaws.{call-inside, call-past}
use Rattle.heads.proofs.head.call_end.Goals as goal

pub overflow_add-result : goal.overflow_add-result
overflow_add-result c =
    let i = call-inside c.args.calls.now c.args.at c.requires in
    omega arith

pub data_size-requires : goal.data_size-requires
data_size-requires c =
    (call-inside c.args.calls.now c.args.at c.requires).0

pub overflow_add-result-2 : goal.overflow_add-result-2
overflow_add-result-2 c =
    let i = call-inside c.args.calls.now c.args.at c.requires in
    omega (arith, c.data_size.ensures.0)

pub returns : goal.returns
returns c =
    let i = call-inside c.args.calls.now c.args.at c.requires in
    let past = call-past c.args.calls.now c.args.at in
    (omega (arith, c.data_size.ensures.0), omega arith, omega (arith, c.data_size.ensures.0))
