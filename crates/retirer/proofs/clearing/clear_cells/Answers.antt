use Prim.Native.Nat.{◌<◌}
use mathlib.Core.Path.{ap}
use native.Mathlib.Omega.{arith}
use Rattle.std.proofs.lemmas.Result.{err_from_is_err_and}
use Rattle.book.specs.Book.{Sizes}
use Rattle.book.specs.Layout.{book_of}
use Rattle.retirer.specs.Clearing.{ClearedBy, AllClearedBy}
use Rattle.retirer.proofs.ClearLaws.{clearing_start, clearing_room, clearing_more, clearing_stop, clearing_end}
use Rattle.retirer.proofs.clearing.clear_cells.Goals as goal

pub loop-lbn-init : goal.loop-lbn-init
loop-lbn-init c = let p = c.requires in clearing_start _ _ _ p.holds p.work_value p.v_len_bound

pub clear_cell-requires : goal.clear_cell-requires
clear_cell-requires c =
    let below : c.loop-lbn.lbn < (book_of c.args.work.now).sizes.l = omega (arith, c.cells-l.ensures) in
    let i = c.loop-lbn.invariant in
    let hv = c.requires.v_lt_volumes in
    let l = ap (λ (z : Sizes). z.l) i.sizes in
    record { holds = i.holds; v_lt_volumes = (hv, omega (arith, below)); work_value = i.maps; work_len_bound = clearing_room _ _ _ _ c.loop-lbn.lbn i below hv }

pub returns-in_err-clear_cell : goal.returns-in_err-clear_cell
unfolding AllClearedBy ClearedBy
returns-in_err-clear_cell c =
    let below : c.loop-lbn.lbn < (book_of c.args.work.now).sizes.l = omega (arith, c.cells-l.ensures) in
    let p = err_from_is_err_and c.from_residual.result c.from_residual.ensures.1 in
    rw (p.1, p.2)
    (clearing_stop _ _ _ _ c.loop-lbn.lbn c.loop-lbn.invariant below c.requires.v_lt_volumes _ c.in_err-clear_cell.ensures)

pub loop-lbn-preserved : goal.loop-lbn-preserved
unfolding ClearedBy
loop-lbn-preserved c =
    let below : c.loop-lbn.lbn < (book_of c.args.work.now).sizes.l = omega (arith, c.cells-l.ensures) in
    let g = c.in_ok-clear_cell.ensures in
    clearing_more _ _ _ _ c.loop-lbn.lbn c.loop-lbn.invariant below c.requires.v_lt_volumes _ g.0 g.1 c.clear_cell.auto.work

pub returns : goal.returns
unfolding AllClearedBy
returns c =
    let i = c.loop-lbn.invariant in
    record {
      run = clearing_end _ _ _ _ c.loop-lbn.lbn i (omega (arith, c.cells-l.ensures));
      holds = i.holds;
      sizes = i.sizes;
      slots = i.slots;
    }
