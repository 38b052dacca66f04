-- `fields::header::cursor`: the number at its offset, by `cursor-at`.
use mathlib.Core.Path.{◌∙◌}
use Rattle.book.proofs.Read.{cursor-at}
use Rattle.fields.proofs.header.cursor.Goals as goal

pub returns : goal.returns
returns c = c.u16_at.ensures ∙ cursor-at c.args.book.now
