use Prim.Native.Nat.{◌+◌, ◌≤◌}
use mathlib.Core.Path.{sym}
use lib.ListN.{length}
use native.Mathlib.Nat.{zero-mul}
use native.Mathlib.Omega.{arith}
use Rattle.words.proofs.LayingLaws.{left-all}
use Rattle.writer.proofs.Writing.{element-room, element-next, part_room, part-stored, all-stored}
use Rattle.writer.proofs.put_marked.Goals as goal

pub loop-mark-init : goal.loop-mark-init
loop-mark-init c = (sym (zero-mul _), left-all c.requires.marks_in_bounds)

pub overflow_add-to : goal.overflow_add-to
overflow_add-to c =
    let end : (let a = c.args in c.loop-mark.from + a.size ≤ length a.elements.now) =
    let a = c.args in
    let l = c.loop-mark in
    element-room a.size a.elements.now a.marks.now l.from l.mark-index c.requires.elements_len c.loop-mark-test.true
    l.invariant.0
    in
    omega (arith, end)

pub slice_bounds-put_if-start : goal.slice_bounds-put_if-start
slice_bounds-put_if-start c =
    let end : (let a = c.args in c.loop-mark.from + a.size ≤ length a.elements.now) =
    let a = c.args in
    let l = c.loop-mark in
    element-room a.size a.elements.now a.marks.now l.from l.mark-index c.requires.elements_len c.loop-mark-test.true
    l.invariant.0
    in
    omega (arith, end)

pub slice_bounds-put_if-end : goal.slice_bounds-put_if-end
slice_bounds-put_if-end c =
    let end : (let a = c.args in c.loop-mark.from + a.size ≤ length a.elements.now) =
    let a = c.args in
    let l = c.loop-mark in
    element-room a.size a.elements.now a.marks.now l.from l.mark-index c.requires.elements_len c.loop-mark-test.true
    l.invariant.0
    in
    omega (arith, end)

pub put_if-next-requires : goal.put_if-next-requires
put_if-next-requires c =
    let l = c.loop-mark in
    part_room _ _ _ l.next l.from l.mark-index l.invariant.0 l.invariant.1 c.loop-mark-test.true

pub loop-mark-preserved : goal.loop-mark-preserved
loop-mark-preserved c =
    let l = c.loop-mark in
    let a = c.args in (
      element-next a.size l.from l.mark-index l.invariant.0,
      part-stored a.size a.elements.now a.marks.now l.next l.from l.mark-index l.invariant.0 l.invariant.1
          c.loop-mark-test.true c.put_if-next.ensures,
    )

pub returns : goal.returns
returns c =
    let l = c.loop-mark in
    all-stored _ _ _ l.next l.from l.mark-index l.invariant.0 l.invariant.1 c.loop-mark-test.false
