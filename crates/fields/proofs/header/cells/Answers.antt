-- `fields::header::cells`: the number at its offset, by `l-at`.
use mathlib.Core.Path.{◌∙◌}
use Rattle.book.proofs.Read.{l-at}
use Rattle.fields.proofs.header.cells.Goals as goal

pub returns : goal.returns
returns c = c.u16_at.ensures ∙ l-at c.args.book.now
