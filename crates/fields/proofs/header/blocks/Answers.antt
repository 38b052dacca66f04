-- `fields::header::blocks`: the number at its offset, by `n-at`.
use mathlib.Core.Path.{◌∙◌}
use Rattle.book.proofs.Read.{n-at}
use Rattle.fields.proofs.header.blocks.Goals as goal

pub returns : goal.returns
returns c = c.u16_at.ensures ∙ n-at c.args.book.now
