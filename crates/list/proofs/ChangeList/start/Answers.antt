-- `ChangeList::start`: no change lies before place 0 of the first pair, which has a block.
use Prim.Native.Nat.{zero-le}
use mathlib.Core.Path.{refl}
use Rattle.list.specs.Readers.{index_of}
use Rattle.list.proofs.ChangeList.start.Goals as goal

pub returns : goal.returns
unfolding index_of
returns c = (record { pair = zero-le; inside = λ h. c.args.self.whole.some 0 h; end = λ e. refl }, refl)
