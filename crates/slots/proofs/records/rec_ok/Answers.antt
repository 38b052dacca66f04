-- `slots::records::rec_ok` meets its contract: the code computes the definition, on the numbers read.
use native.Mathlib.Omega.{arith}
use Rattle.slots.proofs.RecordLaws.{rec_tests}
use Rattle.slots.proofs.records.rec_ok.Goals as goal

pub returns : goal.returns
returns c =
    let a = c.args in
    rec_tests a.b.now a.at a.retire (omega arith) c.requires.n_value.0 c.requires.n_value.1 c.u16_at.ensures
    c.u16_at-2.ensures c.u16_at-3.ensures c.pbn_ok.ensures c.after_ok.ensures
