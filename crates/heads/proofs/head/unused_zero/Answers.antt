-- `heads::head::unused_zero`: a case for each kind.
use mathlib.Core.Path.{refl}
use Rattle.calls.specs.Coding.{unused_zero}
use Rattle.heads.proofs.head.unused_zero.Goals as goal

pub returns-in-Enrol : goal.returns-in-Enrol
unfolding unused_zero
returns-in-Enrol c = rw c.in-Enrol.is refl

pub returns-in-Backup : goal.returns-in-Backup
unfolding unused_zero
returns-in-Backup c = rw c.in-Backup.is refl

pub returns-in-Collect : goal.returns-in-Collect
unfolding unused_zero
returns-in-Collect c = rw c.in-Collect.is refl

pub returns-in-Read : goal.returns-in-Read
unfolding unused_zero
returns-in-Read c = rw c.in-Read.is refl

pub returns-in-Audit : goal.returns-in-Audit
unfolding unused_zero
returns-in-Audit c = rw c.in-Audit.is refl

pub returns-in-Restore : goal.returns-in-Restore
unfolding unused_zero
returns-in-Restore c = rw c.in-Restore.is refl

pub returns-in-Retire : goal.returns-in-Retire
unfolding unused_zero
returns-in-Retire c = rw c.in-Retire.is refl
