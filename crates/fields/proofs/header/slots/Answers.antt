-- `fields::header::slots`: the number at its offset, by `s-at`.
use mathlib.Core.Path.{◌∙◌}
use Rattle.book.proofs.Read.{s-at}
use Rattle.fields.proofs.header.slots.Goals as goal

pub returns : goal.returns
returns c = c.u16_at.ensures ∙ s-at c.args.book.now
