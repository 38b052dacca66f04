-- `recover::all_mapped` meets its contract: a turn takes in one LBN.
use Prim.Native.Nat.{◌+◌}
use mathlib.Core.Path.{◌≡◌}
use Rattle.words.specs.Lists.{each}
use Rattle.recover.specs.Running.{mapped_at}
use Rattle.recover.proofs.all_mapped.Given as goal

abbrev pub invariant-loop-p : goal.invariant-loop-p
invariant-loop-p l =
    l.good ≡ each (mapped_at l.image) l.first (l.first + l.p-index)
