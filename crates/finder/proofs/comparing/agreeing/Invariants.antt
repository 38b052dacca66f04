-- The loop's invariant: what it has compared agrees, and what is left is counted as the definition counts it.
use Prim.Native.Nat.{◌+◌}
use mathlib.Core.Path.{◌≡◌}
use Rattle.words.specs.Blocks.{print_size}
use Rattle.finder.specs.FarEnd.{agreeing_in, agreeing}
use Rattle.finder.proofs.comparing.agreeing.Given as goal

abbrev pub invariant-loop-i : goal.invariant-loop-i
invariant-loop-i l =
    agreeing l.a l.b + l.i ≡ agreeing_in l.i l.a l.b + print_size
