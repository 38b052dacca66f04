-- The run of all changes, then the pool and the end of the book.
use mathlib.Core.Path.{refl, ap}
use mathlib.Core.List.{List}
use native.Mathlib.Omega.{arith}
use lib.ListN.{length}
use Rattle.std.proofs.lemmas.Result.{err_from_is_err_and}
use Rattle.book.specs.Book.{Sizes, Slot}
use Rattle.intake.proofs.CloseLaws.{standing-start, ran-refused, ran-through, storable, worked_refused, worked}
use Rattle.intake.proofs.backup.work_through.Goals as goal

pub run_changes-requires : goal.run_changes-requires
run_changes-requires c =
    let h = c.requires.form_facts.0.holds in
    rw c.requires.form_facts.1 record { holds = (h, h); job = c.requires.job; standing = standing-start c.args.book.now c.requires.form_facts.0 }

pub returns-in_err-t : goal.returns-in_err-t
returns-in_err-t c =
    let r = ran-refused _ _ _ c.args.list _ _ _ _ c.in_err-t.ensures c.requires.form_facts.0 c.requires.job.0 c.requires.form_facts.1 refl in
    let p = err_from_is_err_and c.from_residual.result c.from_residual.ensures.1 in
    rw (p.1, p.2) (worked_refused _ _ _ c.args.list _ _ _ _ r refl)

pub store_all-requires : goal.store_all-requires
store_all-requires c =
    let h = ran-through _ _ _ c.args.list _ _ _ _ c.in_ok-t.ensures c.requires.form_facts.0 c.requires.job.0 c.requires.form_facts.1 refl in
    record { holds = (c.requires.form_facts.0.holds, h.1); storable = storable _ _ c.args.list _ _ _ _ _ c.requires.job.0 h }

pub close-requires : goal.close-requires
close-requires c =
    let h = ran-through _ _ _ c.args.list _ _ _ _ c.in_ok-t.ensures c.requires.form_facts.0 c.requires.job.0 c.requires.form_facts.1 refl in
    let slots = ap (λ (ts : List Slot). length ts) h.2.slots in
    let room = ap (λ (z : Sizes). z.s) h.2.sizes in
    record { holds = h.1; work_len_bound = (omega (arith, c.requires.book_len_bound, slots, room), c.requires.job.1) }

pub returns : goal.returns
returns c =
    let h = ran-through _ _ _ c.args.list _ _ _ _ c.in_ok-t.ensures c.requires.form_facts.0 c.requires.job.0 c.requires.form_facts.1 refl in
    worked _ _ _ c.args.list _ _ _ _ _ _ _ _ c.requires.job.0 h
    c.store_all.ensures c.used_records-first.ensures refl c.close.ensures
