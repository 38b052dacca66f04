-- `fields::header::used_slots`: the number at its offset, by `b_at`.
use mathlib.Core.Path.{◌∙◌}
use Rattle.book.proofs.Read.{b_at}
use Rattle.fields.proofs.header.used_slots.Goals as goal

pub returns : goal.returns
returns c = c.u16_at.ensures ∙ b_at c.args.book.now
