use native.Mathlib.Omega.{arith}
use Rattle.rows.proofs.Rows.{rows_all, rows-room, rows_more, rows-done}
use Rattle.rows.proofs.blocks.put_blocks.Goals as goal

pub loop-p-init : goal.loop-p-init
loop-p-init c = rows_all _ c.requires.holds.sized _ c.requires.book_in_bounds

pub put_block-at-requires-clause-p_bound : goal.put_block-at-requires-clause-p_bound
put_block-at-requires-clause-p_bound c =
    (omega arith, rows-room _ c.requires.holds.sized c.loop-p.p c.loop-p.invariant (omega arith))

pub loop-p-preserved : goal.loop-p-preserved
loop-p-preserved c =
    rows_more _ c.requires.holds.sized c.loop-p.p c.loop-p.invariant (omega arith) c.put_block-at.ensures

pub returns : goal.returns
returns c = rows-done _ c.requires.holds.sized c.loop-p.p c.loop-p.invariant (omega arith)
