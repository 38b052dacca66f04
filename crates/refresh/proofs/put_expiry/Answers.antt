-- `refresh::put_expiry` meets its contract: what is put is the block's number in the table.
use native.Mathlib.Omega.{arith}
use Rattle.refresh.proofs.Putting.{expiry_as_lem}
use Rattle.refresh.proofs.put_expiry.Goals as goal

pub returns : goal.returns
returns c = expiry_as_lem _ _ _ c.set_expiry.ensures (omega arith)
