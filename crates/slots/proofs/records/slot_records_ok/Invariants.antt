-- `slots::records::slot_records_ok` meets its contract: `good` is the test of the records passed.
use mathlib.Core.Path.{◌≡◌}
use Rattle.slots.specs.Records.{records_at}
use Rattle.slots.proofs.records.slot_records_ok.Given as goal

abbrev pub invariant-loop-k : goal.invariant-loop-k
invariant-loop-k l =
    l.good ≡ records_at l.b l.retire l.from l.k
