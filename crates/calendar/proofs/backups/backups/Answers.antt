-- `calendar::backups::backups` meets its contract, by what each way out leaves.
use Prim.Native.Nat.{◌≤◌}
use mathlib.Core.Path.{refl, sym}
use native.Mathlib.Omega.{arith}
use lib.ListN.{length}
use Rattle.std.proofs.lemmas.Result.{err_from_is_err_and}
use Rattle.book.proofs.FormFactLaws.{form-facts}
use Rattle.book.specs.Layout.{told}
use Rattle.claims.proofs.views.EnrolledNumber.{passed-enrolled}
use Rattle.claims.proofs.views.ViewLaws.{length-backups_of}
use Rattle.model.specs.Views.{backups_of}
use Rattle.calendar.proofs.Told.{told-refused, told-short, told-whole}
use Rattle.calendar.proofs.backups.backups.Goals as goal

pub returns-in_err-check : goal.returns-in_err-check
returns-in_err-check c =
    let p = err_from_is_err_and c.from_residual.result c.from_residual.ensures.1 in
    rw (p.1, p.2) (told-refused _ _ _ refl _ c.in_err-check.ensures)

pub count_backups-n-requires : goal.count_backups-n-requires
count_backups-n-requires c =
    let e = passed-enrolled _ _ (sym c.in_ok-check.ensures) in
    (form-facts _ (λ i. (c.type_inv.book i).fits) e.form).holds

pub returns-then-out-n : goal.returns-then-out-n
returns-then-out-n c =
    let s = c.args in
    let rows = length-backups_of (told s.book) s.volume in
    told-short _ _ _ refl (sym c.in_ok-check.ensures) (omega (arith, rows, c.count_backups-n.ensures))

pub put_rows-requires : goal.put_rows-requires
put_rows-requires c =
    let s = c.args in
    let e = passed-enrolled _ _ (sym c.in_ok-check.ensures) in
    let room : length (backups_of (told s.book) s.volume) ≤ length s.out.now =
    omega (arith, length-backups_of (told s.book) s.volume, c.count_backups-n.ensures)
    in
    record { form_facts = form-facts _ (λ i. (c.type_inv.book i).fits) e.form; v_lt_volumes = (e.inside, room) }

pub returns : goal.returns
returns c =
    let s = c.args in
    let room : length (backups_of (told s.book) s.volume) ≤ length s.out.now =
    omega (arith, length-backups_of (told s.book) s.volume, c.count_backups-n.ensures)
    in
    told-whole _ _ _ (sym c.in_ok-check.ensures) room c.put_rows.ensures c.count_backups-n.ensures
