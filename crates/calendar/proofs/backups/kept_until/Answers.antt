-- `calendar::backups::kept_until` meets its contract, by the two ways in which a backup is kept.
use mathlib.Core.Path.{sym}
use native.Mathlib.Omega.{arith}
use Rattle.book.specs.Layout.{told}
use Rattle.calendar.proofs.RowLaws.{until_newest, until_older}
use Rattle.calendar.proofs.backups.kept_until.Goals as goal

pub returns-then-used_slots-at : goal.returns-then-used_slots-at
returns-then-used_slots-at c = sym (until_newest _ _ _ _ (omega arith))

pub returns : goal.returns
returns c =
    let a = c.args in
    sym (until_older (told a.book) a.taken a.at a.days (omega arith))
