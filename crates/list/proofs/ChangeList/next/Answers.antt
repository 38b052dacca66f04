-- `ChangeList::next`: the next place is in the pair as long as one of its blocks is left, else at the start of the next.
use Prim.Native.Nat.{◌+◌}
use native.Mathlib.Omega.{arith}
use Rattle.runs.specs.Changes.{pair_at}
use Rattle.list.proofs.Cursors.{in_pair, index-within, index-pair}
use Rattle.list.proofs.ChangeList.next.Goals as goal

pub overflow_add-at-3 : goal.overflow_add-at-3
unfolding pair_at
overflow_add-at-3 c =
    let k = in_pair c.args.self.bytes.now c.args.at c.requires.0 (omega arith) in
    omega (arith, c.args.self.whole.bound c.args.at.pair k, c.requires.0.inside k)

pub overflow_add-result-else-at-many : goal.overflow_add-result-else-at-many
overflow_add-result-else-at-many c =
    let k = in_pair c.args.self.bytes.now c.args.at c.requires.0 (omega arith) in
    omega arith

pub returns-then-at-many : goal.returns-then-at-many
unfolding pair_at
returns-then-at-many c =
    let k = in_pair c.args.self.bytes.now c.args.at c.requires.0 (omega arith) in (
      record { pair = c.requires.0.pair; inside = λ h. omega arith; end = λ e. absurd (omega arith) },
      index-within c.args.self.bytes.now c.args.at k,
    )

pub returns-else-at-many : goal.returns-else-at-many
unfolding pair_at
returns-else-at-many c =
    let k = in_pair c.args.self.bytes.now c.args.at c.requires.0 (omega arith) in
    let i = c.requires.0.inside k in (
      record { pair = omega arith; inside = λ h. c.args.self.whole.some (c.args.at.pair + 1) h; end = λ e. omega arith },
      index-pair c.args.self.bytes.now c.args.at k (omega arith),
    )
