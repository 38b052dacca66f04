-- `restorer::read::block_before` meets its contract, by the tests of numbers 17 and 18.
use mathlib.Core.Path.{sym}
use native.Mathlib.Omega.{arith}
use Rattle.restorer.proofs.ReadingLaws.{block_outside, block-unmapped, block-found}
use Rattle.restorer.proofs.read.block_before.Goals as goal

pub returns-then-lbn-cells : goal.returns-then-lbn-cells
returns-then-lbn-cells c = sym (block_outside _ _ _ _ (omega arith))

pub returns-then-p : goal.returns-then-p
returns-then-p c =
    sym (block-unmapped _ _ _ _ (omega arith) c.image_at-p.result.0 c.image_at-p.ensures (omega arith))

pub returns : goal.returns
returns c =
    sym (block-found _ _ _ _ (omega arith) c.image_at-p.result.0 c.image_at-p.ensures (λ e. omega arith))
