-- `heads::checking::check`: what is left, with the longest answers so far, is refused as the whole is.
use Prim.Native.Nat.{◌-◌, ◌≤◌}
use mathlib.Core.Path.{◌≡◌}
use lib.ListN.{length}
use Rattle.model.specs.OnBytes.{number_of}
use Rattle.calls.proofs.BoundLaws.{number_from}
use Rattle.calls.specs.Promises.{playable}
use Rattle.heads.proofs.checking.check.Given as goal

abbrev pub invariant-loop-at : goal.invariant-loop-at
invariant-loop-at l =
    (l.at ≤ length l.calls) × (number_of (playable l.calls l.room) ≡ number_from l.room l.calls l.at l.most)

abbrev pub decreases-loop-at : goal.decreases-loop-at
decreases-loop-at l =
    length l.calls - l.at
