-- `ChangeList::prints`: the bounds of the part are those of the fingerprints.
use native.Mathlib.Nat.{add-sub_cancel_left}
use Rattle.runs.specs.Changes.{prints_from}
use Rattle.list.proofs.ChangeList.prints.Goals as goal

pub returns : goal.returns
unfolding prints_from
returns c = rw (add-sub_cancel_left, c.args.self.whole.pairs)
