-- `put_marked`: the elements that are written and those that are left make the section whole.
use Prim.Native.Nat.{◌*◌}
use mathlib.Core.Path.{◌≡◌}
use lib.ListN.{drop}
use Rattle.words.proofs.LayingLaws.{Left}
use Rattle.writer.specs.Elements.{marked_elements}
use Rattle.writer.proofs.put_marked.Given as goal

abbrev pub invariant-loop-mark : goal.invariant-loop-mark
invariant-loop-mark l =
    (l.from ≡ l.mark-index * l.size)
    × Left l.initial.list l.at (marked_elements l.size l.elements 0 l.marks) l.list l.next (marked_elements l.size l.elements l.mark-index (drop l.mark-index l.marks))
