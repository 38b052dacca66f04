-- `heads::checking::longest`: a case for each length.
use mathlib.Core.Logic.{⊎_elim}
use native.Mathlib.Omega.{arith}
use Rattle.calls.specs.Answers.{longest_of}
use Rattle.heads.proofs.checking.longest.Goals as goal

pub returns-in-Backup : goal.returns-in-Backup
unfolding longest_of
returns-in-Backup c = (rw c.in-Backup.is, omega arith)

pub returns-in-Read : goal.returns-in-Read
unfolding longest_of
returns-in-Read c = (rw c.in-Read.is, omega arith)

pub returns-in-Restore : goal.returns-in-Restore
unfolding longest_of
returns-in-Restore c = (rw c.in-Restore.is (omega arith), omega arith)

pub returns-in-Enrol : goal.returns-in-Enrol
unfolding longest_of
returns-in-Enrol c =
    (⊎_elim (λ e. rw e) (⊎_elim (λ e. rw e) (⊎_elim (λ e. rw e) (λ e. rw e))) c.in-Enrol.is, omega arith)
