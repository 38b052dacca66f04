-- Each way out by a law of the whole call.
use mathlib.Core.Path.{◌≡◌, refl, sym, ap, ◌∙◌}
use native.Mathlib.Omega.{arith}
use lib.ListN.{length}
use lib.Seq.{length-take-le}
use Rattle.std.proofs.Common.{is_ok, true}
use Rattle.std.proofs.lemmas.Result.{err_from_is_err_and}
use Rattle.words.proofs.SectionLaws.{sets-whole}
use Rattle.retirer.specs.Allowing.{AllowedBy}
use Rattle.retirer.proofs.RetireLaws.{work-stopped, work-done, refused-by, stopped_by, retired-by}
use Rattle.retirer.proofs.retire.retire.Goals as goal

pub returns-in_err-plan : goal.returns-in_err-plan
unfolding AllowedBy
returns-in_err-plan c =
    let p = err_from_is_err_and c.from_residual.result c.from_residual.ensures.1 in
    rw (p.1, p.2) (refused-by _ _ _ _ _ refl c.in_err-plan.ensures)

pub slice_bounds-work-end : goal.slice_bounds-work-end
unfolding AllowedBy
slice_bounds-work-end c =
    let ready = c.in_ok-plan.ensures in
    omega (arith, ready.spared)

pub slice_bounds-work-end-2 : goal.slice_bounds-work-end-2
unfolding AllowedBy
slice_bounds-work-end-2 c =
    let ready = c.in_ok-plan.ensures in
    sym (length-take-le _ _ ready.spared)

pub put_bytes-requires : goal.put_bytes-requires
unfolding AllowedBy
put_bytes-requires c =
    let ready = c.in_ok-plan.ensures in
    let a = c.args in
    omega (arith, length-take-le (length a.book.now) a.spare.now ready.spared)

pub work_through-requires : goal.work_through-requires
unfolding AllowedBy
work_through-requires c =
    let ready = c.in_ok-plan.ensures in
    let copied : c.put_bytes.new.b ≡ c.args.book.now =
    c.put_bytes.ensures
    ∙ sets-whole c.args.book.now _ (sym (length-take-le _ _ ready.spared))
    in
    let r = ready in
    rw copied (record { holds = r.formed.holds; v_lt_volumes = (r.volume, r.slot); work_value = r.formed.parts.maps; v_len_bound = r.room })

pub returns-in-Err : goal.returns-in-Err
unfolding AllowedBy
returns-in-Err c =
    let ready = c.in_ok-plan.ensures in
    let copied : c.put_bytes.new.b ≡ c.args.book.now =
    c.put_bytes.ensures
    ∙ sets-whole c.args.book.now _ (sym (length-take-le _ _ ready.spared))
    in
    stopped_by _ _ _ _ _ ready _ _ (omega arith) refl (work-stopped _ _ _ _ _ _ copied _ c.in-Err.is c.work_through.ensures)

pub returns : goal.returns
unfolding AllowedBy
returns c =
    let ready = c.in_ok-plan.ensures in
    let copied : c.put_bytes.new.b ≡ c.args.book.now =
    c.put_bytes.ensures
    ∙ sets-whole c.args.book.now _ (sym (length-take-le _ _ ready.spared))
    in
    let long : length c.work_through.new.work ≡ length c.args.book.now = c.work_through.auto.work ∙ ap length copied in
    let done : is_ok c.work_through.result ≡ true = grind arith in
    let w = work-done _ _ _ _ _ _ copied _ done c.work_through.ensures in
    retired-by _ _ _ _ _ ready w.0 c.work_through.new.work w.1 w.2
    (c.put_bytes-2.ensures ∙ sets-whole c.work_through.new.work _ long)
