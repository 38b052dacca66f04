-- `fields::header::used_records`: the number at its offset, by `u_at`.
use mathlib.Core.Path.{◌∙◌}
use Rattle.book.proofs.Read.{u_at}
use Rattle.fields.proofs.header.used_records.Goals as goal

pub returns : goal.returns
returns c = c.u16_at.ensures ∙ u_at c.args.book.now
