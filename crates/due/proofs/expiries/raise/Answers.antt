-- `super::expiries::raise` meets its contract: a store at the block's expiry, or none.
use Rattle.due.proofs.ExpiryLaws.{raised-past, raised-kept, raised-set}
use native.Mathlib.Omega.{arith}
use Rattle.due.proofs.expiries.raise.Goals as goal

pub returns-then-at-ge-MAX_BLOCKS : goal.returns-then-at-ge-MAX_BLOCKS
returns-then-at-ge-MAX_BLOCKS c = raised-past _ _ _ (omega arith)

pub returns-then-until-expiries : goal.returns-then-until-expiries
returns-then-until-expiries c = raised-kept _ _ _ (omega arith)

pub returns : goal.returns
returns c = raised-set _ _ _ (omega arith) (omega arith)
