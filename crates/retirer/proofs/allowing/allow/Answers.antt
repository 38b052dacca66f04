-- Each way out by the number that it says, and what is known when there is none.
use mathlib.Core.Path.{sym, ◌∙◌}
use native.Mathlib.Omega.{arith}
use Rattle.std.proofs.lemmas.Result.{err_from_is_err_and}
use Rattle.words.proofs.Refused.{number-not_zero}
use Rattle.book.specs.Layout.{book_of}
use Rattle.book.proofs.FormFactLaws.{form-facts}
use Rattle.model.specs.Retire.{mapped_cells}
use Rattle.permit.specs.Allowing.{NextBy}
use Rattle.retirer.specs.Allowing.{AllowedBy}
use Rattle.retirer.proofs.AllowLaws.{form-refused, spare-refused, number-refused, goes_on_lem, room-facts, room_says}
use Rattle.retirer.proofs.AllowLaws.{by-volume, by-room}
use Rattle.retirer.proofs.allowing.allow.Goals as goal

pub returns-in_err-check : goal.returns-in_err-check
unfolding AllowedBy
returns-in_err-check c =
    let p = err_from_is_err_and c.from_residual.result c.from_residual.ensures.1 in
    rw (p.1, p.2) (form-refused _ _ _ _ _ c.in_err-check.ensures)

pub returns-then-spare-book : goal.returns-then-spare-book
unfolding AllowedBy
returns-then-spare-book c = spare-refused _ _ _ _ (sym c.in_ok-check.ensures) (omega (arith, c.if-spare-book.true))

pub next_slot-requires : goal.next_slot-requires
next_slot-requires c = form-facts _ (λ i. (c.type_inv.book i).fits) (sym c.in_ok-check.ensures)

pub returns-in_err-slot : goal.returns-in_err-slot
unfolding AllowedBy NextBy
returns-in_err-slot c =
    let a = c.args in
    let p = err_from_is_err_and c.from_residual-in_err-slot.result c.from_residual-in_err-slot.ensures.1 in
    rw (p.1, p.2)
    (number-refused _ _ _ _ (sym c.in_ok-check.ensures) (omega (arith, c.if-spare-book.false)) _
    (by-volume (book_of a.book.now) a.v a.day (λ z. number-not_zero _ (c.in_err-slot.ensures ∙ z)) ∙ sym c.in_err-slot.ensures))

pub mapped_cells-cells-requires : goal.mapped_cells-cells-requires
unfolding NextBy
mapped_cells-cells-requires c =
    let form = form-facts _ (λ i. (c.type_inv.book i).fits) (sym c.in_ok-check.ensures) in
    record { holds = form.holds; v_lt_volumes = c.in_ok-slot.ensures.volume }

pub check_room-requires : goal.check_room-requires
check_room-requires c =
    let form = form-facts _ (λ i. (c.type_inv.book i).fits) (sym c.in_ok-check.ensures) in
    form.holds

pub returns-in_err-check_room : goal.returns-in_err-check_room
unfolding AllowedBy NextBy
returns-in_err-check_room c =
    let a = c.args in
    let x = book_of a.book.now in
    let number =
    by-room x a.v a.day c.in_ok-slot.ensures.allowed
    ∙ room_says x (mapped_cells x a.v) c.in_err-check_room.ensures (omega (arith, c.mapped_cells-cells.ensures))
    in
    let p = err_from_is_err_and c.from_residual-in_err-check_room.result c.from_residual-in_err-check_room.ensures.1 in
    rw (p.1, p.2) (number-refused _ _ _ _ (sym c.in_ok-check.ensures) (omega (arith, c.if-spare-book.false)) _ number)

pub returns : goal.returns
unfolding AllowedBy NextBy
returns c =
    let a = c.args in
    let x = book_of a.book.now in
    let form = form-facts _ (λ i. (c.type_inv.book i).fits) (sym c.in_ok-check.ensures) in
    let number =
    by-room x a.v a.day c.in_ok-slot.ensures.allowed
    ∙ room_says x (mapped_cells x a.v) c.in_ok-check_room.ensures (omega (arith, c.mapped_cells-cells.ensures))
    in
    let n = c.mapped_cells-cells.ensures in
    let f = room-facts x c.mapped_cells-cells.result (sym c.in_ok-check_room.ensures) in
    record {
      formed = form;
      spared = omega (arith, c.if-spare-book.false);
      volume = c.in_ok-slot.ensures.volume;
      slot = f.0;
      room = omega (arith, f.1, n);
      until = c.in_ok-slot.ensures.until;
      cells = n;
      goes = goes_on_lem _ _ _ _ (sym c.in_ok-check.ensures) (omega (arith, c.if-spare-book.false)) number;
    }
