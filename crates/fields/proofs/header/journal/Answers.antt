-- `fields::header::journal`: the number at its offset, by `j-at`.
use mathlib.Core.Path.{◌∙◌}
use Rattle.book.proofs.Read.{j-at}
use Rattle.fields.proofs.header.journal.Goals as goal

pub returns : goal.returns
returns c = c.u16_at.ensures ∙ j-at c.args.book.now
