-- `ChangeList::print_of`: the bounds of the part are those of the fingerprint.
use native.Mathlib.Nat.{add-sub_cancel_left}
use Rattle.runs.specs.Changes.{prints_from, change_at}
use Rattle.list.proofs.ChangeList.print_of.Goals as goal

pub returns : goal.returns
unfolding change_at prints_from
returns c = rw (add-sub_cancel_left, c.args.self.whole.pairs)
