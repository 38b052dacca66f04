use Prim.Native.Nat.{ℕ, ◌+◌, ◌<◌}
use mathlib.Core.Path.{refl, ap, ◌∙◌}
use native.Mathlib.Omega.{arith}
use Rattle.runs.specs.Changes.{change_count, change_at}
use Rattle.mover.proofs.ChangeLaws.{run_more, run-refused, run-done}
use Rattle.words.specs.Refusals.{refusal_number}
use Rattle.mover.specs.Stepping.{SteppedBy, StillIndexed}
use Rattle.mover.proofs.changing.run_changes.Goals as goal

pub loop-i-init : goal.loop-i-init
loop-i-init c =
    let p = c.requires in
    (p.holds.1, p.standing, c.start-at.ensures.0, c.start-at.ensures.1, refl, c.build.ensures)

pub change-step-requires : goal.change-step-requires
change-step-requires c =
    let l = c.loop-i.invariant in
    let lbn = c.lbn_at-lbn.ensures ∙ ap (λ (k : ℕ). (change_at c.args.list.bytes.now k).lbn) l.3 in
    record { holds = (c.requires.holds.0, l.0); job = (c.requires.job.0, c.loop-i-test.true, c.requires.job.1); standing = l.1; lbn_value = lbn; indexed = l.5 }

pub returns-in_default : goal.returns-in_default
unfolding SteppedBy
returns-in_default c =
    let below : c.loop-i.i < change_count c.args.list.bytes.now = omega (arith, c.loop-i-test.true, c.args.list.whole.changes) in
    let l = c.loop-i in
    let e = c.in_default.is in
    run-refused _ _ _ _ _ _ _ l.i _ l.invariant.4 _ _ below (omega (arith, ap refusal_number e)) (rw e at c.change-step.ensures.stepped_by)

pub loop-i-preserved : goal.loop-i-preserved
unfolding SteppedBy StillIndexed
loop-i-preserved c =
    let below : c.loop-i.i < change_count c.args.list.bytes.now = omega (arith, c.loop-i-test.true, c.args.list.whole.changes) in
    let l = c.loop-i in
    let a = c.args in
    let g = rw c.in-Ok.is at c.change-step.ensures.stepped_by in (
      g.1,
      g.2,
      c.next-at.ensures.0,
      c.next-at.ensures.1 ∙ ap (λ (k : ℕ). k + 1) l.invariant.3,
      l.invariant.4 ∙ run_more a.v a.until a.list.bytes.now l.i _ _ below g.0,
      rw c.in-Ok.is at c.change-step.ensures.still_indexed,
    )

pub returns : goal.returns
returns c =
    let l = c.loop-i in
    run-done _ _ _ _ _ _ _ l.i _ l.invariant.4 l.t refl
    (omega (arith, c.args.list.whole.changes, l.auto.i-end, c.loop-i-test.false)) l.invariant.0 l.invariant.1
