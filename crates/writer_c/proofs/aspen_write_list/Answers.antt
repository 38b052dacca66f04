use native.Mathlib.Omega.{arith}
use Rattle.writer_c.proofs.WriteExits.{length-fits, written}
use Rattle.writer_c.proofs.aspen_write_list.Goals as goal

pub overflow_cast-written : goal.overflow_cast-written
overflow_cast-written c = length-fits _ _ _ _ _ c.in-Ok.ensures

pub returns-in-Ok : goal.returns-in-Ok
returns-in-Ok c = written _ _ _ _ _ _ c.in-Ok.ensures (omega arith)
