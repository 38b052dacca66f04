-- `keeping::is_kept` meets its contract, by the two ways in which a backup is kept.
use mathlib.Core.Path.{sym}
use native.Mathlib.Omega.{arith}
use Rattle.book.specs.Layout.{told}
use Rattle.keeping.proofs.AfterLaws.{kept_newest, kept_older}
use Rattle.keeping.proofs.is_kept.Goals as goal

pub returns-then-used_slots-at : goal.returns-then-used_slots-at
returns-then-used_slots-at c = sym (kept_newest _ _ _ _ (omega arith))

pub returns : goal.returns
returns c =
    let a = c.args in
    rw c.day.ensures (sym (kept_older (told a.book) a.taken a.at a.days (omega arith)))
