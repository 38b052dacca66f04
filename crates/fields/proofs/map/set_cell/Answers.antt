-- `fields::map::set_cell`: what the store left, by `is-cell`.
use Rattle.book.proofs.Write.{is-cell}
use Rattle.fields.proofs.map.set_cell.Goals as goal

pub returns : goal.returns
returns c =
    let at = c.cell_offset-at in
    is-cell c.requires.holds c.args.v c.args.lbn.0 c.args.p.0 at.result
    c.requires.v_lt_volumes.0 c.requires.v_lt_volumes.1 at.ensures.value c.put_u16.ensures
