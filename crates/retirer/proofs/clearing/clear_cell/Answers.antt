-- The three ways out, each by a law of one cell.
use Prim.Native.Nat.{◌<◌}
use mathlib.Core.Path.{refl, sym, ap, ◌∙◌}
use native.Mathlib.Omega.{arith}
use lib.ListN.{length}
use Rattle.std.proofs.lemmas.Result.{err_from_is_err_and}
use Rattle.book.specs.Book.{Book}
use Rattle.book.specs.Layout.{book_of, Is}
use Rattle.book.specs.Next.{with_entries, with_maps}
use Rattle.model.specs.Backup.{lower}
use Rattle.mover.proofs.MoveLaws.{cell-ok}
use Rattle.retirer.proofs.ClearLaws.{by-none, by_zero, by_clearing}
use Rattle.retirer.proofs.clearing.clear_cell.Goals as goal

pub returns-then-before : goal.returns-then-before
returns-then-before c =
    by-none _ _ _ _ _ c.cell-before.ensures refl c.requires.holds c.if-before.true

pub lower-requires : goal.lower-requires
lower-requires c =
    let x = book_of c.args.work.now in
    record { holds = c.requires.holds; fact = rw c.cell-before.ensures (cell-ok x.maps x.sizes.n c.args.v c.args.lbn.0 c.requires.work_value) }

pub returns-in_err-lower : goal.returns-in_err-lower
returns-in_err-lower c =
    let p = err_from_is_err_and c.from_residual.result c.from_residual.ensures.1 in
    rw (p.1, p.2) (by_zero _ _ _ _ _ c.cell-before.ensures c.if-before.false _ c.in_err-lower.ensures.number)

pub set_cell-requires : goal.set_cell-requires
unfolding with_entries
set_cell-requires c =
    let low : (let x = book_of c.args.work.now in
    Is c.lower.new.work (with_entries (lower c.args.until c.cell-before.result.0 x.entries) x)) = c.in_ok-lower.ensures.book refl in
    let l = ap (λ (x : Book). x.sizes.l) low.book in
    record { holds = low.holds; v_lt_volumes = (c.requires.v_lt_volumes.0, omega (arith, c.requires.v_lt_volumes.1, l)) }

pub append_record-requires : goal.append_record-requires
unfolding with_entries with_maps
append_record-requires c =
    let low : (let x = book_of c.args.work.now in
    Is c.lower.new.work (with_entries (lower c.args.until c.cell-before.result.0 x.entries) x)) = c.in_ok-lower.ensures.book refl in
    let room : (let x = book_of c.args.work.now in
    length x.records < x.sizes.j) = c.requires.work_len_bound (λ e. c.if-before.false (c.cell-before.ensures ∙ e)) in
    let i = low.book in
    let j = c.set_cell.ensures.book in
    record {
      holds = c.set_cell.ensures.holds;
      book_len_bound = omega (
        arith,
        room,
        ap (λ (x : Book). length x.records) i,
        ap (λ (x : Book). length x.records) j,
        ap (λ (x : Book). x.sizes.j) i,
        ap (λ (x : Book). x.sizes.j) j,
      );
    }

pub returns : goal.returns
returns c =
    let low : (let x = book_of c.args.work.now in
    Is c.lower.new.work (with_entries (lower c.args.until c.cell-before.result.0 x.entries) x)) = c.in_ok-lower.ensures.book refl in
    by_clearing _ _ _ _ _ c.cell-before.ensures c.if-before.false (sym c.in_ok-lower.ensures.number)
    low c.set_cell.ensures c.append_record.ensures
