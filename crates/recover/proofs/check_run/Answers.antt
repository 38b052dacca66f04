-- `recover::check_run` meets its contract, by the two tests of number 21.
use mathlib.Core.Path.{sym}
use native.Mathlib.Omega.{arith}
use Rattle.claims.proofs.kept.RestoreLaws.{run-passes}
use Rattle.recover.proofs.RunningLaws.{run_past, run_short}
use Rattle.recover.proofs.check_run.Goals as goal

pub returns-then-first-many : goal.returns-then-first-many
returns-then-first-many c = sym (run_past _ _ _ _ (omega arith))

pub returns-then-room-many : goal.returns-then-room-many
returns-then-room-many c = sym (run_short _ _ _ _ (omega arith))

pub returns : goal.returns
returns c = sym (run-passes _ _ _ _ (omega arith) (omega arith))
