-- Each way out by a law of number 7.
use mathlib.Core.Path.{sym, ◌∙◌}
use native.Mathlib.Omega.{arith}
use Rattle.book.specs.Layout.{book_of}
use Rattle.permit.proofs.AllowLaws.{day-late, day-early, day-first, day-again, day-next}
use Rattle.permit.proofs.allowing.check_day.Goals as goal

pub returns-then-day-gt-MAX_DAY : goal.returns-then-day-gt-MAX_DAY
returns-then-day-gt-MAX_DAY c =
    let a = c.args in
    day-late (book_of a.book.now) a.v a.day c.if-day-gt-MAX_DAY.true

pub returns-then-day : goal.returns-then-day
returns-then-day c =
    let a = c.args in
    day-early (book_of a.book.now) a.v a.day c.if-day-gt-MAX_DAY.false
    (omega (arith, c.day.ensures, c.if-day.true))

pub returns-then-backups-eq0 : goal.returns-then-backups-eq0
returns-then-backups-eq0 c =
    let a = c.args in
    day-first (book_of a.book.now) a.v a.day c.if-day-gt-MAX_DAY.false
    (omega (arith, c.day.ensures, c.if-day.false)) (sym c.requires.backups_are.count ∙ c.if-backups-eq0.true)

pub returns-then-day-backups : goal.returns-then-day-backups
returns-then-day-backups c =
    let a = c.args in
    day-again (book_of a.book.now) a.v a.day c.if-day-gt-MAX_DAY.false
    (omega (arith, c.day.ensures, c.if-day.false)) (λ e. c.if-backups-eq0.false (c.requires.backups_are.count ∙ e))
    (omega (arith, c.requires.backups_are.last, c.if-day-backups.true))

pub returns : goal.returns
returns c =
    let a = c.args in
    day-next (book_of a.book.now) a.v a.day c.if-day-gt-MAX_DAY.false
    (omega (arith, c.day.ensures, c.if-day.false)) (λ e. c.if-backups-eq0.false (c.requires.backups_are.count ∙ e))
    (omega (arith, c.requires.backups_are.last, c.if-day-backups.false))
