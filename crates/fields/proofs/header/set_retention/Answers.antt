-- `fields::header::set_retention`: what the store left, by `is-retention`.
use Rattle.book.proofs.Write.{is-retention}
use Rattle.fields.proofs.header.set_retention.Goals as goal

pub returns : goal.returns
returns c =
    is-retention c.requires.holds c.args.v c.args.days c.requires.v_lt_volumes c.put_u16.ensures
