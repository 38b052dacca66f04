-- `heads::head::kind_of`: a call's first byte is a kind.
use native.Mathlib.Omega.{arith}
use Rattle.calls.proofs.ReadingLaws.{call-inside}
use Rattle.heads.proofs.KindLaws.{call-kind}
use Rattle.heads.proofs.head.kind_of.Goals as goal

pub bounds-calls-at : goal.bounds-calls-at
bounds-calls-at c =
    let i = call-inside c.args.calls.now c.args.at c.requires in
    omega arith

pub unreachable-requires : goal.unreachable-requires
unreachable-requires c = call-kind c.args.calls.now c.args.at c.requires c.in_default.ensures.1
