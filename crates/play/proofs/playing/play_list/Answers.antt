use mathlib.Core.Path.{refl, ap, ◌∙◌}
use native.Mathlib.Nat.{zero-add}
use native.Mathlib.Omega.{arith}
use lib.ListN.{length}
use Rattle.calls.specs.Coding.{call_at}
use Rattle.calls.specs.Answers.{most_of}
use Rattle.calls.specs.Promises.{at}
use Rattle.calls.proofs.Playing.{playing_all, playing_more, playing_none}
use Rattle.calls.proofs.ReadingLaws.{Next, rest_end, next-good}
use Rattle.calls.proofs.Short.{reply-short}
use Rattle.play.proofs.playing.play_list.Goals as goal

pub loop-at-init : goal.loop-at-init
loop-at-init c =
    let p = c.requires in (playing_all, p.0, rw zero-add p.1, omega arith, refl, refl, refl, refl)

pub play_call-to-requires : goal.play_call-to-requires
play_call-to-requires c =
    let next : Next c.args.calls.now c.loop-at.at = next-good c.args.calls.now c.loop-at.at c.loop-at-test.true c.loop-at.invariant.1 in
    let l = c.loop-at in
    let n = next in
    let most = ap most_of n.split in
    (n.is, omega (arith, l.invariant.2, l.invariant.7))

pub call_end-at-requires : goal.call_end-at-requires
call_end-at-requires c =
    let next : Next c.args.calls.now c.loop-at.at = next-good c.args.calls.now c.loop-at.at c.loop-at-test.true c.loop-at.invariant.1 in
    next.is

pub loop-at-smaller : goal.loop-at-smaller
loop-at-smaller c = omega (arith, c.call_end-at.ensures)

pub loop-at-preserved : goal.loop-at-preserved
loop-at-preserved c =
    let next : Next c.args.calls.now c.loop-at.at = next-good c.args.calls.now c.loop-at.at c.loop-at-test.true c.loop-at.invariant.1 in
    let a = c.args in
    let l = c.loop-at in
    let k = c.play_call-to in
    let n = next in
    let past = c.call_end-at.ensures.0 in
    let did = rw l.invariant.6 at k.ensures in
    let short = reply-short (length a.spare.now) (at l.book l.pool) (call_at a.calls.now l.at) in
    let most = ap most_of n.split in (
      rw past (playing_more (call_at a.calls.now l.at) _ (rw n.split at l.invariant.0) did),
      rw past n.good,
      rw past (omega (arith, did.answer.place, short, l.invariant.2)),
      c.call_end-at.ensures.2,
      k.auto.book ∙ l.invariant.4,
      k.auto.pool ∙ l.invariant.5,
      k.auto.spare ∙ l.invariant.6,
      k.auto.answers ∙ l.invariant.7,
    )

pub shape_of-book : goal.shape_of-book
shape_of-book c = c.loop-at.invariant.4

pub shape_of-pool : goal.shape_of-pool
shape_of-pool c = c.loop-at.invariant.5

pub shape_of-spare : goal.shape_of-spare
shape_of-spare c = c.loop-at.invariant.6

pub shape_of-answers : goal.shape_of-answers
shape_of-answers c = c.loop-at.invariant.7

pub returns : goal.returns
returns c =
    let l = c.loop-at in
    playing_none (rw (rest_end c.args.calls.now l.at c.loop-at-test.false) at l.invariant.0) c.requires.1
