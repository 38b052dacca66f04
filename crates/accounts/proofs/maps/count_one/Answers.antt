-- `accounts::maps::count_one` meets its contract: a store at the block's counter, or none.
use native.Mathlib.Omega.{arith}
use Rattle.accounts.proofs.CountLaws.{counted-one, counted-past}
use Rattle.accounts.proofs.maps.count_one.Goals as goal

pub returns-then-at-ge-MAX_BLOCKS : goal.returns-then-at-ge-MAX_BLOCKS
returns-then-at-ge-MAX_BLOCKS c = counted-past _ _ (omega arith)

pub overflow_add-counts : goal.overflow_add-counts
overflow_add-counts c = omega (arith, c.requires (omega arith))

pub returns : goal.returns
returns c = counted-one _ _ (omega arith)
