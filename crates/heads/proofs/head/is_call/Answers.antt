-- `heads::head::is_call`: the tests in their order.
use mathlib.Core.Path.{ap, sym}
use mathlib.Core.Bool.{not}
use native.Mathlib.Omega.{arith}
use Rattle.words.proofs.ChoiceLaws.{failed, passed}
use Rattle.calls.proofs.ReadingLaws.{call-short, call-second, call_unused, call_ends}
use Rattle.heads.proofs.head.is_call.Goals as goal

pub returns-then-calls-at-lt-HEAD_SIZE : goal.returns-then-calls-at-lt-HEAD_SIZE
returns-then-calls-at-lt-HEAD_SIZE c =
    let a = c.args in
    sym (call-short a.calls.now a.at (omega arith))

pub returns-then-calls-at-ne0 : goal.returns-then-calls-at-ne0
returns-then-calls-at-ne0 c =
    let a = c.args in
    sym (call-second a.calls.now a.at (omega arith) c.if-calls-at-ne0.true)

pub returns-then-not-unused_zero_at : goal.returns-then-not-unused_zero_at
returns-then-not-unused_zero_at c =
    let a = c.args in
    sym (call_unused a.calls.now a.at (omega arith) c.if-calls-at-ne0.false
    (failed c.unused_zero_at.ensures (ap not c.if-not-unused_zero_at.true)))

pub returns : goal.returns
returns c =
    let a = c.args in
    rw c.data_size.ensures.0
    (sym (call_ends a.calls.now a.at (omega arith) c.if-calls-at-ne0.false
    (passed c.unused_zero_at.ensures (ap not c.if-not-unused_zero_at.false))))
