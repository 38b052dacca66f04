-- `fields::header::retention`: the number at its offset, by `retention-at`.
use mathlib.Core.Path.{◌∙◌}
use Rattle.book.proofs.Read.{retention-at}
use Rattle.fields.proofs.header.retention.Goals as goal

pub returns : goal.returns
returns c =
    c.u16_at.ensures ∙ retention-at c.args.book.now c.args.v c.requires.v_lt_volumes
