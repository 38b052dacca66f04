use mathlib.Core.Path.{sym}
use native.Mathlib.Omega.{arith}
use Rattle.words.proofs.Each.{each_none, each-grow}
use Rattle.slots.specs.Records.{records_at}
use Rattle.slots.proofs.records.slot_records_ok.Goals as goal

pub loop-k-init : goal.loop-k-init
unfolding records_at
loop-k-init c = sym (each_none _ _ _ (omega arith))

pub loop-k-preserved : goal.loop-k-preserved
unfolding records_at
loop-k-preserved c = each-grow _ _ _ (omega arith) c.loop-k.invariant c.rec_ok-good.ensures
