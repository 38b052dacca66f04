-- `fields::header::set_cursor`: what the store left, by `is-cursor`.
use Rattle.book.proofs.Write.{is-cursor}
use Rattle.fields.proofs.header.set_cursor.Goals as goal

pub returns : goal.returns
returns c =
    is-cursor c.requires c.args.cursor c.put_u16.ensures
