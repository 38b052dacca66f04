-- `fields::map::cell`: the number at its offset, by `cell-at`.
use mathlib.Core.Path.{◌∙◌}
use Rattle.book.proofs.Read.{cell-at}
use Rattle.fields.proofs.map.cell.Goals as goal

pub returns : goal.returns
returns c =
    let at = c.cell_offset-at in
    c.u16_at.ensures
    ∙ cell-at c.args.book.now c.args.v c.args.lbn.0 at.result
    c.requires.v_lt_volumes.0 c.requires.v_lt_volumes.1 at.ensures.value
