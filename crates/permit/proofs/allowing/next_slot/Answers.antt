-- Each way out by the number that it says, and the slot when there is none.
use mathlib.Core.Path.{sym, ◌∙◌}
use native.Mathlib.Omega.{arith}
use Rattle.std.proofs.lemmas.Result.{err_from_is_err_and}
use Rattle.book.proofs.Conditions.{retention_in}
use Rattle.book.specs.Layout.{book_of}
use Rattle.claims.proofs.kept.Retirements.{count-living}
use Rattle.permit.specs.Allowing.{NextBy}
use Rattle.permit.proofs.AllowLaws.{five-above, five-none, five-retired, by-day, day-facts, days-bound}
use Rattle.permit.proofs.allowing.next_slot.Goals as goal

pub returns-then-v-gt-LAST_VOLUME : goal.returns-then-v-gt-LAST_VOLUME
unfolding NextBy
returns-then-v-gt-LAST_VOLUME c = five-above _ _ _ c.if-v-gt-LAST_VOLUME.true

pub returns-then-days-eq0 : goal.returns-then-days-eq0
unfolding NextBy
returns-then-days-eq0 c = five-none _ _ _ c.if-v-gt-LAST_VOLUME.false (sym c.retention-days.ensures ∙ c.if-days-eq0.true)

pub returns-then-backups : goal.returns-then-backups
unfolding NextBy
returns-then-backups c =
    five-retired _ _ _ c.if-v-gt-LAST_VOLUME.false (λ e. c.if-days-eq0.false (c.retention-days.ensures ∙ e))
    (sym c.backups_of-backups.ensures.retired ∙ c.if-backups.true)

pub returns-in_err-check_day : goal.returns-in_err-check_day
unfolding NextBy
returns-in_err-check_day c =
    let p = err_from_is_err_and c.from_residual.result c.from_residual.ensures.1 in
    rw (p.1, p.2)
    (c.in_err-check_day.ensures
    ∙ by-day _ _ _ c.if-v-gt-LAST_VOLUME.false (λ e. c.if-days-eq0.false (c.retention-days.ensures ∙ e))
    (sym c.backups_of-backups.ensures.retired ∙ c.if-backups.false))

pub overflow_add-until : goal.overflow_add-until
overflow_add-until c =
    let a = c.args in
    let x = book_of a.book.now in
    let d = day-facts x a.v a.day (sym c.in_ok-check_day.ensures) in
    let kept = retention_in x c.requires.parts a.v in
    omega (arith, d.0, d.1, kept, c.backups_of-backups.ensures.last, c.retention-days.ensures)

pub overflow_add-number : goal.overflow_add-number
overflow_add-number c =
    let h = c.requires.holds in
    omega (arith, c.backups_of-backups.ensures.count, days-bound (book_of c.args.book.now) c.args.v, h.slots, h.s)

pub returns : goal.returns
unfolding NextBy
returns c =
    let a = c.args in
    let x = book_of a.book.now in
    let living = sym c.backups_of-backups.ensures.retired ∙ c.if-backups.false in
    record {
      allowed =
          sym (by-day x a.v a.day c.if-v-gt-LAST_VOLUME.false (λ e. c.if-days-eq0.false (c.retention-days.ensures ∙ e)) living)
          ∙ sym c.in_ok-check_day.ensures;
      volume = omega (arith, c.if-v-gt-LAST_VOLUME.false);
      until = omega (arith, c.backups_of-backups.ensures.last, c.retention-days.ensures);
      number = omega (arith, c.backups_of-backups.ensures.count, count-living x a.v living);
    }
