-- The cells, then one writer after the other.
use Prim.Native.Nat.{ℕ}
use mathlib.Core.Path.{ap}
use mathlib.Core.List.{List}
use native.Mathlib.Omega.{arith}
use lib.ListN.{length}
use Rattle.std.proofs.lemmas.Result.{err_from_is_err_and}
use Rattle.book.specs.Book.{Sizes, Slot}
use Rattle.book.specs.Layout.{book_of}
use Rattle.book.specs.Next.{with_day}
use Rattle.book.proofs.Holding.{is-then, is_same}
use Rattle.retirer.specs.Clearing.{AllClearedBy}
use Rattle.retirer.specs.Closing.{closed_book, WorkedBy}
use Rattle.retirer.proofs.retire.work_through.Goals as goal

pub returns-in_err-clear_cells : goal.returns-in_err-clear_cells
unfolding WorkedBy AllClearedBy
returns-in_err-clear_cells c =
    let p = err_from_is_err_and c.from_residual.result c.from_residual.ensures.1 in
    rw (p.1, p.2) c.in_err-clear_cells.ensures

pub append_slot-requires : goal.append_slot-requires
unfolding AllClearedBy
append_slot-requires c =
    let k = c.in_ok-clear_cells.ensures in
    let p = c.requires.v_lt_volumes in
    let slots = ap (λ (ts : List Slot). length ts) k.slots in
    let room = ap (λ (z : Sizes). z.s) k.sizes in
    record { holds = k.holds; book_len_bound = (omega (arith, p.1, slots, room), omega (arith, p.0)) }

pub returns : goal.returns
unfolding WorkedBy AllClearedBy
returns c =
    let a = c.args in
    let b = book_of c.clear_cells.new.work in
    record {
      made = b;
      run = c.in_ok-clear_cells.ensures.run;
      closed = is_same (ap (λ (n : ℕ). closed_book a.v a.day n a.cells b) c.used_records-first.ensures)
          (is-then (with_day a.day) c.append_slot.ensures c.set_day.ensures);
    }
