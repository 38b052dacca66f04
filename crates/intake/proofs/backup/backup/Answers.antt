-- Each way out by a law of the whole call.
use mathlib.Core.Path.{refl, sym}
use native.Mathlib.Omega.{arith}
use lib.Seq.{length-take-le}
use Rattle.std.proofs.lemmas.Result.{err_from_is_err_and}
use Rattle.permit.specs.Allowing.{AllowedBy}
use Rattle.intake.specs.Closing.{WorkedBy}
use Rattle.intake.proofs.BackupLaws.{refused-up, changes-stopped, backed-up}
use Rattle.intake.proofs.backup.backup.Goals as goal

pub returns-in_err-plan : goal.returns-in_err-plan
unfolding AllowedBy
returns-in_err-plan c =
    let p = err_from_is_err_and c.from_residual.result c.from_residual.ensures.1 in
    rw (p.1, p.2) (refused-up _ _ _ _ _ _ _ refl refl c.in_err-plan.ensures)

pub slice_bounds-work-end : goal.slice_bounds-work-end
unfolding AllowedBy
slice_bounds-work-end c = omega (arith, c.in_ok-plan.ensures.spared)

pub slice_bounds-work-end-2 : goal.slice_bounds-work-end-2
unfolding AllowedBy
slice_bounds-work-end-2 c = sym (length-take-le _ _ c.in_ok-plan.ensures.spared)

pub copy-requires : goal.copy-requires
unfolding AllowedBy
copy-requires c = length-take-le _ _ c.in_ok-plan.ensures.spared

pub work_through-requires : goal.work_through-requires
unfolding AllowedBy
work_through-requires c =
    let r = c.in_ok-plan.ensures in
    record { form_facts = (r.formed, c.copy.ensures); job = (r.job, r.volume); book_len_bound = r.room }

pub returns-in_err-t : goal.returns-in_err-t
unfolding AllowedBy WorkedBy
returns-in_err-t c =
    let w = c.in_err-t.ensures in
    let run = rw c.in_ok-plan.ensures.same at w.0 in
    let p = err_from_is_err_and c.from_residual-in_err-t.result c.from_residual-in_err-t.ensures.1 in
    rw (p.1, p.2) (changes-stopped _ _ _ _ _ _ _ c.in_ok-plan.ensures _ refl w.1 run)

pub returns : goal.returns
unfolding AllowedBy WorkedBy
returns c =
    let w = c.in_ok-t.ensures in
    let run = rw c.in_ok-plan.ensures.same at w.run in
    let closed = rw c.in_ok-plan.ensures.same at w.closed in
    backed-up _ _ _ _ _ _ _ c.in_ok-plan.ensures _ _ _ run closed c.copy-2.ensures
