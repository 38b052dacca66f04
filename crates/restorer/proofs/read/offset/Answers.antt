-- `restorer::read::offset` meets its contract: the offset of the block that the search found, or its refusal.
use native.Mathlib.Omega.{arith}
use Rattle.std.proofs.lemmas.Result.{err_from_is_err_and}
use Rattle.restorer.proofs.ReadCalls.{offset_refused, offset-at}
use Rattle.restorer.proofs.read.offset.Goals as goal

pub returns-in_err-p : goal.returns-in_err-p
returns-in_err-p c =
    let p = err_from_is_err_and c.from_residual.result c.from_residual.ensures.1 in
    rw (p.1, p.2) (offset_refused _ _ _ _ _ _ c.in_err-p.ensures)

pub returns : goal.returns
returns c = offset-at _ _ _ _ _ _ c.in_ok-p.ensures (omega (arith, c.block_offset.ensures))
