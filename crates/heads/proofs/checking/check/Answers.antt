use mathlib.Core.Bool.{not}
use Prim.Native.Nat.{ℕ, ◌+◌, ◌≤◌}
use mathlib.Core.Path.{◌≡◌, sym, ap, ap₂, ◌∙◌}
use native.Mathlib.Omega.{arith}
use lib.ListN.{length}
use Rattle.words.proofs.ChoiceLaws.{failed, passed}
use Rattle.calls.specs.Coding.{call_at}
use Rattle.calls.specs.Answers.{longest_reply, longest_of}
use Rattle.calls.specs.Bound.{added_to}
use Rattle.calls.proofs.BoundLaws.{number-begin, number_broken, number_more, number-end}
use Rattle.calls.proofs.BoundLaws.{room-passed, room_enough}
use Rattle.calls.proofs.ReadingLaws.{call-inside}
use Rattle.calls.proofs.Short.{longest_at}
use Rattle.heads.proofs.checking.check.Goals as goal

pub loop-at-init : goal.loop-at-init
loop-at-init c = (omega arith, number-begin c.args.room c.args.calls.now)

pub returns-then-not-is_call : goal.returns-then-not-is_call
returns-then-not-is_call c =
    let a = c.args in
    let l = c.loop-at in
    let no = failed c.is_call.ensures (ap not c.if-not-is_call.true) in
    sym (l.invariant.1 ∙ number_broken a.room a.calls.now l.at l.most c.loop-at-test.true no)

pub overflow_add-at : goal.overflow_add-at
overflow_add-at c =
    let inside : (let a = c.args in c.loop-at.at + 14 ≤ length a.calls.now) = (call-inside _ _ (passed c.is_call.ensures (ap not c.if-not-is_call.false))).0 in
    let i = inside in omega arith

pub u16_at-d-requires : goal.u16_at-d-requires
u16_at-d-requires c =
    let inside : (let a = c.args in c.loop-at.at + 14 ≤ length a.calls.now) = (call-inside _ _ (passed c.is_call.ensures (ap not c.if-not-is_call.false))).0 in
    let i = inside in omega arith

pub added-most-requires : goal.added-most-requires
added-most-requires c = (omega arith, c.longest.ensures.1)

pub call_end-at-requires : goal.call_end-at-requires
call_end-at-requires c =
    passed c.is_call.ensures (ap not c.if-not-is_call.false)

pub loop-at-smaller : goal.loop-at-smaller
loop-at-smaller c = omega (arith, c.call_end-at.ensures)

pub loop-at-preserved : goal.loop-at-preserved
loop-at-preserved c =
    let a = c.args in
    let l = c.loop-at in
    let is = passed c.is_call.ensures (ap not c.if-not-is_call.false) in
    let most : c.longest.result ≡ longest_reply (call_at a.calls.now l.at) =
    c.longest.ensures.0
    ∙ ap₂ longest_of c.kind_of.ensures c.u16_at-d.ensures
    ∙ sym (longest_at a.calls.now l.at)
    in
    let sum : c.added-most.result ≡ added_to a.room l.most (longest_reply (call_at a.calls.now l.at)) =
    c.added-most.ensures ∙ ap (λ (k : ℕ). added_to a.room l.most k) most
    in (
      c.call_end-at.ensures.2,
      rw (c.call_end-at.ensures.0, sum)
          (l.invariant.1 ∙ number_more a.room a.calls.now l.at l.most c.loop-at-test.true is),
    )

pub returns-then-room-most : goal.returns-then-room-most
returns-then-room-most c =
    let l = c.loop-at in
    let a = c.args in
    let end = number-end a.room a.calls.now l.at l.most c.loop-at-test.false in
    sym (l.invariant.1 ∙ end ∙ room-passed a.room l.most (omega arith))

pub returns : goal.returns
returns c =
    let l = c.loop-at in
    let a = c.args in
    let end = number-end a.room a.calls.now l.at l.most c.loop-at-test.false in
    sym (l.invariant.1 ∙ end ∙ room_enough a.room l.most (omega arith))
