-- `ChangeList::block_of`: the bounds of the part are those of the block.
use native.Mathlib.Nat.{add-sub_cancel_left}
use Rattle.runs.specs.Changes.{prints_from, blocks_from, change_at}
use Rattle.list.proofs.ChangeList.block_of.Goals as goal

pub returns : goal.returns
unfolding change_at blocks_from prints_from
returns c =
    let whole = c.args.self.whole in
    rw (add-sub_cancel_left, whole.pairs, whole.changes)
