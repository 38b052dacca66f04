-- One writer after the other.
use Rattle.book.specs.Next.{with_day}
use Rattle.book.proofs.Holding.{is-then}
use Rattle.intake.proofs.backup.close.Goals as goal

pub returns : goal.returns
returns c =
    is-then (with_day c.args.day) c.append_slot.ensures c.set_day.ensures
