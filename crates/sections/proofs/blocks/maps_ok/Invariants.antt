-- `sections::blocks::maps_ok` meets its contract: `good` is the test of the cells passed.
use mathlib.Core.Path.{◌≡◌}
use Rattle.sections.specs.Checks.{maps_ok}
use Rattle.sections.proofs.blocks.maps_ok.Given as goal

abbrev pub invariant-loop-c : goal.invariant-loop-c
invariant-loop-c l =
    l.good ≡ maps_ok l.b l.from l.c l.n
