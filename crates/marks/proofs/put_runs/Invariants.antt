-- `put_runs`: the pairs that are written and those that are left make the section whole.
use Prim.Native.Nat.{◌≤◌}
use lib.ListN.{drop}
use Rattle.words.proofs.LayingLaws.{Left}
use Rattle.marks.specs.Passes.{pairs_of}
use Rattle.marks.proofs.Writing.{pairs_left}
use Rattle.marks.proofs.put_runs.Given as goal

abbrev pub invariant-loop-lbn : goal.invariant-loop-lbn
invariant-loop-lbn l =
    (l.p.row ≤ l.lbn)
    × Left l.initial.list l.at (pairs_of l.marks) l.list l.p.at (pairs_left l.lbn l.p.row (drop l.lbn l.marks))
