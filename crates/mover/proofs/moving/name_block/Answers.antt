-- What the three writers left, by `named`.
use mathlib.Core.Path.{ap}
use native.Mathlib.Omega.{arith}
use lib.ListN.{length}
use Rattle.book.specs.Book.{Book}
use Rattle.book.specs.Next.{with_entries, with_maps}
use Rattle.mover.proofs.MoveLaws.{named}
use Rattle.mover.proofs.moving.name_block.Goals as goal

pub set_cell-requires : goal.set_cell-requires
unfolding with_entries
set_cell-requires c =
    let k = c.requires.v_lt_volumes in
    let l = ap (λ (x : Book). x.sizes.l) c.set_count.ensures.book in
    record { holds = c.set_count.ensures.holds; v_lt_volumes = (k.0, omega (arith, k.1, l)) }

pub append_record-requires : goal.append_record-requires
unfolding with_entries with_maps
append_record-requires c =
    let i = c.set_count.ensures.book in
    let j = c.set_cell.ensures.book in
    record {
      holds = c.set_cell.ensures.holds;
      book_len_bound = omega (
        arith,
        c.requires.work_len_bound.0,
        ap (λ (x : Book). length x.records) i,
        ap (λ (x : Book). length x.records) j,
        ap (λ (x : Book). x.sizes.j) i,
        ap (λ (x : Book). x.sizes.j) j,
      );
    }

pub returns : goal.returns
returns c =
    let g = c.args in
    named g.v g.lbn.0 g.p.0 g.count g.before.0 g.work.now _ _ _
    c.requires.count_value.0 c.requires.work_len_bound.1
    c.set_count.ensures c.set_cell.ensures c.append_record.ensures
