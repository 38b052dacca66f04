use mathlib.Core.Path.{◌≡◌}
use lib.ListN.{length}
use native.Mathlib.Omega.{arith}
use Rattle.words.proofs.LayingLaws.{left-all}
use Rattle.marks.proofs.Writing.{all_left, next-room, last-room, next-stored, last_stored, row_room}
use Rattle.marks.proofs.put_runs.Goals as goal

pub loop-lbn-init : goal.loop-lbn-init
loop-lbn-init c = (omega arith, rw all_left (left-all c.requires.1))

pub put_mark-p-requires : goal.put_mark-p-requires
put_mark-p-requires c =
    let l = c.loop-lbn in
    (omega arith, omega arith, next-room _ l.p l.lbn l.invariant.1 c.loop-lbn-test.true)

pub loop-lbn-preserved : goal.loop-lbn-preserved
loop-lbn-preserved c =
    let l = c.loop-lbn in (
      row_room c.put_mark-p.ensures l.invariant.0,
      next-stored _ l.p l.lbn l.invariant.1 c.loop-lbn-test.true c.put_mark-p.ensures,
    )

pub put_mark-end-requires : goal.put_mark-end-requires
put_mark-end-requires c =
    let l = c.loop-lbn in
    let all : l.lbn ≡ length c.args.marks.now = omega arith in
    (omega arith, omega arith, rw (← all) (last-room _ l.p l.lbn l.invariant.1 _ c.loop-lbn-test.false (λ e. omega arith)))

pub returns : goal.returns
returns c =
    let l = c.loop-lbn in
    let all : l.lbn ≡ length c.args.marks.now = omega arith in
    last_stored _ l.p l.lbn l.invariant.1 c.loop-lbn-test.false (λ e. omega arith)
    (rw (← all) at c.put_mark-end.ensures)
