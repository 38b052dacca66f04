-- `ChangeList::lbn_at`: the cursor stands in a pair, and its LBN lies as far from the pair's first.
use native.Mathlib.Omega.{arith}
use Rattle.runs.specs.Changes.{pair_at}
use Rattle.list.proofs.Cursors.{in_pair, lbn-there}
use Rattle.list.proofs.ChangeList.lbn_at.Goals as goal

pub overflow_add-result : goal.overflow_add-result
unfolding pair_at
overflow_add-result c =
    let k = in_pair c.args.self.bytes.now c.args.at c.requires.0 (omega arith) in
    omega (arith, c.args.self.whole.bound c.args.at.pair k, c.requires.0.inside k)

pub returns : goal.returns
unfolding pair_at
returns c =
    let k = in_pair c.args.self.bytes.now c.args.at c.requires.0 (omega arith) in
    let e = lbn-there c.args.self.bytes.now c.args.at k (c.requires.0.inside k) in
    omega arith
