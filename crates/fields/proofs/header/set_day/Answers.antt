-- `fields::header::set_day`: what the store left, by `is-day`.
use Rattle.book.proofs.Write.{is-day}
use Rattle.fields.proofs.header.set_day.Goals as goal

pub returns : goal.returns
returns c =
    is-day c.requires c.args.day c.put_u16.ensures
