-- `fields::offsets::cell_offset`: the sizes are those of the book, and the cell lies in the maps by `cell_room`.
use native.Mathlib.Omega.{arith}
use Rattle.book.proofs.Read.{cell_room}
use Rattle.fields.proofs.offsets.cell_offset.Goals as goal

pub overflow_mul-result-2 : goal.overflow_mul-result-2
overflow_mul-result-2 c =
    omega (arith, cell_room c.args.v c.args.lbn.0 c.cells-l.result c.requires.v_lt_volumes.0 (omega arith))

pub overflow_add-result : goal.overflow_add-result
overflow_add-result c =
    omega (arith, cell_room c.args.v c.args.lbn.0 c.cells-l.result c.requires.v_lt_volumes.0 (omega arith))

pub overflow_add-result-2 : goal.overflow_add-result-2
overflow_add-result-2 c =
    omega (arith, cell_room c.args.v c.args.lbn.0 c.cells-l.result c.requires.v_lt_volumes.0 (omega arith))

pub returns : goal.returns
returns c =
    record { value = rw (c.maps_from-from.ensures, c.cells-l.ensures); result_in_bounds = omega (arith, cell_room c.args.v c.args.lbn.0 c.cells-l.result c.requires.v_lt_volumes.0 (omega arith)) }
