-- `keeping::kept_backup` meets its contract: each way out gives its number, the last one the slots after it.
use mathlib.Core.Bool.{not}
use mathlib.Core.Path.{ap}
use native.Mathlib.Omega.{arith}
use Rattle.words.proofs.ChoiceLaws.{failed, passed}
use Rattle.keeping.proofs.KeptLaws.{backup-above, backup_unenrolled, backup-zero, backup-missing}
use Rattle.keeping.proofs.KeptLaws.{backup-retired, backup_lapsed, backup-kept}
use Rattle.keeping.proofs.kept_backup.Goals as goal

pub returns-then-v-gt-LAST_VOLUME : goal.returns-then-v-gt-LAST_VOLUME
returns-then-v-gt-LAST_VOLUME c = backup-above _ _ _ (omega arith)

pub returns-then-days-eq0 : goal.returns-then-days-eq0
returns-then-days-eq0 c = backup_unenrolled _ _ _ (omega arith)

pub returns-then-k-eq0 : goal.returns-then-k-eq0
returns-then-k-eq0 c =
    backup-zero _ _ _ c.retention-days.result c.retention-days.ensures (omega arith) (λ e. omega arith) (omega arith)

pub returns-in_default : goal.returns-in_default
returns-in_default c =
    backup-missing _ _ _ c.retention-days.result c.retention-days.ensures (omega arith) (λ e. omega arith) (λ e. omega arith)
    c.in_default.ensures.few

pub returns-then-after : goal.returns-then-after
returns-then-after c =
    backup-retired _ _ _ c.retention-days.result c.retention-days.ensures (omega arith) (λ e. omega arith) (λ e. omega arith)
    c.in-Ok.after c.in-Ok.ensures c.requires.parts.days
    c.if-after.true

pub returns-then-not-is_kept : goal.returns-then-not-is_kept
returns-then-not-is_kept c =
    backup_lapsed _ _ _ c.retention-days.result c.retention-days.ensures (omega arith) (λ e. omega arith) (λ e. omega arith)
    c.in-Ok.after c.in-Ok.ensures c.requires.parts.days
    c.if-after.false (failed c.is_kept.ensures (ap not c.if-not-is_kept.true))

pub returns : goal.returns
returns c =
    backup-kept _ _ _ c.retention-days.result c.retention-days.ensures (omega arith) (λ e. omega arith) (λ e. omega arith)
    c.in-Ok.after c.in-Ok.ensures c.requires.parts.days
    c.if-after.false (passed c.is_kept.ensures (ap not c.if-not-is_kept.false))
