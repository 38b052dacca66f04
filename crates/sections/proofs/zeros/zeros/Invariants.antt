-- `sections::zeros::zeros` meets its contract: `clear` is the test of the bytes passed.
use Prim.Native.Nat.{◌+◌}
use mathlib.Core.Path.{◌≡◌}
use Rattle.sections.specs.Checks.{zeros_in}
use Rattle.sections.proofs.zeros.zeros.Given as goal

abbrev pub invariant-loop-x : goal.invariant-loop-x
invariant-loop-x l =
    l.clear ≡ zeros_in l.b l.from (l.from + l.x-index)
