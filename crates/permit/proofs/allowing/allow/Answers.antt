-- Each way out by the number that it says, and what is known when there is none.
use Prim.Native.Nat.{ℕ}
use mathlib.Core.Path.{◌≡◌, sym, ap, ◌∙◌}
use native.Mathlib.Omega.{arith}
use Rattle.std.proofs.Common.{Some, None}
use Rattle.std.proofs.lemmas.Result.{err_from_is_err_and}
use Rattle.words.proofs.Refused.{number-not_zero}
use Rattle.words.specs.declared.refusals.Refusal.TheVariants.{BadList}
use Rattle.runs.specs.Changes.{change_count, list_number}
use Rattle.book.specs.Layout.{book_of}
use Rattle.book.proofs.FormFactLaws.{form-facts}
use Rattle.claims.proofs.form.BackupAllowed.{number-zero}
use Rattle.permit.specs.Allowing.{room_number, NextBy, AllowedBy}
use Rattle.permit.proofs.AllowLaws.{lent-facts, lent-refused, number-refused, goes_on_lem, by-volume, by-room, eight}
use Rattle.permit.proofs.allowing.allow.Goals as goal

pub returns-in_err-check_lent : goal.returns-in_err-check_lent
unfolding AllowedBy
returns-in_err-check_lent c =
    let p = err_from_is_err_and c.from_residual.result c.from_residual.ensures.1 in
    rw (p.1, p.2) (lent-refused _ _ _ _ _ _ _ c.in_err-check_lent.ensures)

pub next_slot-requires : goal.next_slot-requires
next_slot-requires c = form-facts _ (λ i. (c.type_inv.book i).fits) (lent-facts _ _ _ (sym c.in_ok-check_lent.ensures)).0

pub returns-in_err-slot : goal.returns-in_err-slot
unfolding AllowedBy NextBy
returns-in_err-slot c =
    let a = c.args in
    let p = err_from_is_err_and c.from_residual-in_err-slot.result c.from_residual-in_err-slot.ensures.1 in
    rw (p.1, p.2)
    (number-refused _ _ _ _ _ _ (sym c.in_ok-check_lent.ensures) _
    (by-volume (book_of a.book.now) a.v a.day a.bytes.now (λ z. number-not_zero _ (c.in_err-slot.ensures ∙ z)) ∙ sym c.in_err-slot.ensures))

pub cells-requires : goal.cells-requires
cells-requires c =
    let form = form-facts _ (λ i. (c.type_inv.book i).fits) (lent-facts _ _ _ (sym c.in_ok-check_lent.ensures)).0 in
    form.holds

pub returns-in_err-list : goal.returns-in_err-list
unfolding AllowedBy NextBy
returns-in_err-list c =
    let a = c.args in
    let none : c.open.result ≡ None = grind arith in
    let refusal : c.in_err-list.field-0.0 ≡ BadList = grind arith in
    let p = err_from_is_err_and c.from_residual-in_err-list.result c.from_residual-in_err-list.ensures.1 in
    rw (p.1, p.2, refusal)
    (number-refused _ _ _ _ _ _ (sym c.in_ok-check_lent.ensures) BadList
    (eight (book_of a.book.now) a.v a.day a.bytes.now c.in_ok-slot.ensures.allowed
    (ap (λ (l : ℕ). list_number l a.bytes.now) (sym c.cells.ensures) ∙ rw none at c.open.ensures)))

pub check_room-requires : goal.check_room-requires
check_room-requires c =
    let form = form-facts _ (λ i. (c.type_inv.book i).fits) (lent-facts _ _ _ (sym c.in_ok-check_lent.ensures)).0 in
    form.holds

pub returns-in_err-check_room : goal.returns-in_err-check_room
unfolding AllowedBy NextBy
returns-in_err-check_room c =
    let a = c.args in
    let x = book_of a.book.now in
    let form = form-facts _ (λ i. (c.type_inv.book i).fits) (lent-facts _ _ _ (sym c.in_ok-check_lent.ensures)).0 in
    let some : c.open.result ≡ Some c.in_ok-list.list = grind arith in
    let g = rw some at c.open.ensures in
    let many = ap (λ (n : ℕ). room_number x n) (ap change_count (sym g.1) ∙ sym c.in_ok-list.list.whole.changes) in
    let number =
    by-room x a.v a.day a.bytes.now c.in_ok-slot.ensures.allowed
    (ap (λ (l : ℕ). list_number l a.bytes.now) (sym c.cells.ensures) ∙ g.0) ∙ many
    in
    let p = err_from_is_err_and c.from_residual-in_err-check_room.result c.from_residual-in_err-check_room.ensures.1 in
    rw (p.1, p.2) (number-refused _ _ _ _ _ _ (sym c.in_ok-check_lent.ensures) _ (number ∙ sym c.in_err-check_room.ensures))

pub returns : goal.returns
unfolding AllowedBy NextBy
returns c =
    let a = c.args in
    let x = book_of a.book.now in
    let form = form-facts _ (λ i. (c.type_inv.book i).fits) (lent-facts _ _ _ (sym c.in_ok-check_lent.ensures)).0 in
    let some : c.open.result ≡ Some c.in_ok-list.list = grind arith in
    let g = rw some at c.open.ensures in
    let many = ap (λ (n : ℕ). room_number x n) (ap change_count (sym g.1) ∙ sym c.in_ok-list.list.whole.changes) in
    let number =
    by-room x a.v a.day a.bytes.now c.in_ok-slot.ensures.allowed
    (ap (λ (l : ℕ). list_number l a.bytes.now) (sym c.cells.ensures) ∙ g.0) ∙ many
    in
    let zero = number ∙ sym c.in_ok-check_room.ensures in
    let l = number-zero x a.v a.day a.bytes.now zero in
    let f = lent-facts a.book.now a.pool.now a.spare (sym c.in_ok-check_lent.ensures) in
    record {
      formed = form;
      spared = f.2;
      volume = c.in_ok-slot.ensures.volume;
      last = l.last;
      same = g.1;
      job = record { size = f.1; good = rw g.1 l.good; room = rw g.1 l.records };
      room = l.slots;
      until = c.in_ok-slot.ensures.until;
      number = c.in_ok-slot.ensures.number;
      goes = goes_on_lem _ _ _ _ _ _ (sym c.in_ok-check_lent.ensures) zero;
    }
