-- `fields::header::day`: the number at its offset, by `day-at`.
use mathlib.Core.Path.{◌∙◌}
use Rattle.book.proofs.Read.{day-at}
use Rattle.fields.proofs.header.day.Goals as goal

pub returns : goal.returns
returns c = c.u16_at.ensures ∙ day-at c.args.book.now
