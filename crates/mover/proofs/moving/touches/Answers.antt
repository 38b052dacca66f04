-- The two cases of the test.
use borrow.Author.Tests.{eq-eqb, ne_eqb}
use Rattle.mover.proofs.moving.touches.Goals as goal

pub returns-then-before-eq-UNMAPPED : goal.returns-then-before-eq-UNMAPPED
returns-then-before-eq-UNMAPPED c = rw (eq-eqb _ _ c.if-before-eq-UNMAPPED.true)

pub returns-else-before-eq-UNMAPPED : goal.returns-else-before-eq-UNMAPPED
returns-else-before-eq-UNMAPPED c = rw (ne_eqb _ _ c.if-before-eq-UNMAPPED.false)
