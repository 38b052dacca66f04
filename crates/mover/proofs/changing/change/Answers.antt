-- A change that isn't placed stops; one that is goes as its move goes.
use Prim.Native.Nat.{◌<◌}
use mathlib.Core.Path.{refl, ap}
use native.Mathlib.Omega.{arith}
use Rattle.std.proofs.lemmas.Result.{err_from_is_err_and}
use Rattle.runs.specs.Changes.{change_count}
use Rattle.runs.proofs.Laws.{changes-within, change_below}
use Rattle.book.specs.Book.{Sizes}
use Rattle.book.specs.Layout.{book_of}
use Rattle.mover.proofs.ChangeLaws.{change_unplaced, change_by, move_indexed}
use Rattle.mover.specs.Stepping.{SteppedBy, StillIndexed}
use Rattle.placer.specs.Placing.{PlacedBy}
use Rattle.mover.proofs.changing.change.Goals as goal

pub returns-in_err-p : goal.returns-in_err-p
unfolding PlacedBy SteppedBy StillIndexed
returns-in_err-p c =
    let p = err_from_is_err_and c.from_residual.result c.from_residual.ensures.1 in
    rw (p.1, p.2)
    (record { stepped_by = change_unplaced _ _ _ _ _ c.in_err-p.ensures.placed_by; still_indexed = tt })

pub move_to-requires : goal.move_to-requires
unfolding PlacedBy
move_to-requires c =
    let below : c.args.i < change_count c.args.list.bytes.now = omega (arith, c.requires.job.1, c.args.list.whole.changes) in
    let a = c.args in
    let h = c.in_ok-p.ensures.placed_by in
    let x = book_of a.book.now in
    let st = h.4 in
    let n = ap (λ (z : Sizes). z.n) st.sizes in
    let l = ap (λ (z : Sizes). z.l) st.sizes in
    let j = ap (λ (z : Sizes). z.j) st.sizes in
    let job = c.requires.job.0 in
    let b = below in
    let small = changes-within x.sizes.l a.list.bytes.now job.good in
    let lbn = change_below x.sizes.l a.list.bytes.now job.good a.i b in
    record { holds = h.3; v_lt_volumes = (c.requires.job.2, omega (arith, c.requires.lbn_value), omega (arith, h.2)); work_len_bound = (omega (arith, st.records, job.room), omega (arith, st.touched, c.requires.holds.0.l)); work_value = st.maps }

pub returns : goal.returns
unfolding PlacedBy
returns c =
    let m = c.move_to in
    let lbn = c.requires.lbn_value in
    let placed = c.in_ok-p.ensures in
    record { stepped_by = change_by _ _ _ _ _ _ _ _ _ _ _ m.result _ (rw lbn at m.ensures) placed.placed_by refl; still_indexed = move_indexed _ _ _ _ _ _ _ m.result _ m.ensures placed.indexed_2 refl }
