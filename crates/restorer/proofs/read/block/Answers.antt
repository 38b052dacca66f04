-- `restorer::read::block` meets its contract: the part of the block that the search found, which lies within the pool.
use native.Mathlib.Omega.{arith}
use Rattle.std.proofs.lemmas.Result.{err_from_is_err_and}
use Rattle.restorer.proofs.ReadCalls.{block_refused, block-at, block_inside}
use Rattle.restorer.proofs.read.block.Goals as goal

pub returns-in_err-p : goal.returns-in_err-p
returns-in_err-p c =
    let p = err_from_is_err_and c.from_residual.result c.from_residual.ensures.1 in
    rw (p.1, p.2) (block_refused _ _ _ _ _ _ c.in_err-p.ensures)

pub slice_bounds-result-end : goal.slice_bounds-result-end
slice_bounds-result-end c = omega (arith, block_inside _ _ _ _ _ _ c.in_ok-p.ensures)

pub returns : goal.returns
returns c = block-at _ _ _ _ _ _ c.in_ok-p.ensures (omega (arith, c.block_offset-at.ensures)) (omega arith)
