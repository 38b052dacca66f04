-- `pairs::count_changes`: the pairs that are left decide as all do, and what was passed ends at `end`.
use Prim.Native.Nat.{◌+◌, ◌≤◌}
use mathlib.Core.Path.{◌≡◌}
use lib.ListN.{drop}
use Rattle.words.specs.Lists.{sum}
use Rattle.runs.specs.Changes.{pairs, lengths, change_count, pairs_fit}
use Rattle.pairs.proofs.count_changes.Given as goal

abbrev pub invariant-loop-i : goal.invariant-loop-i
invariant-loop-i l =
    (l.changes ≤ l.end)
    × (l.end ≤ l.l)
    × (pairs_fit l.l 0 (pairs l.list) ≡ pairs_fit l.l l.end (drop l.i (pairs l.list)))
    × (change_count l.list ≡ l.changes + sum (lengths (drop l.i (pairs l.list))))
