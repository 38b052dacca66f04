-- `setup::enrol::check` meets its contract: each way out decides the definition's tests.
use mathlib.Core.Path.{sym, ◌∙◌}
use native.Mathlib.Omega.{arith}
use Rattle.setup.proofs.EnrolExits.{number-above, number-enrolled, number-zero, number-long, number-none}
use Rattle.setup.proofs.enrol.check.Goals as goal

pub returns-then-volume-gt-LAST_VOLUME : goal.returns-then-volume-gt-LAST_VOLUME
returns-then-volume-gt-LAST_VOLUME c = sym (number-above _ _ _ (omega arith))

pub returns-then-retention-ne0 : goal.returns-then-retention-ne0
returns-then-retention-ne0 c = sym (number-enrolled _ _ _ (λ e. c.if-retention-ne0.true (c.retention.ensures ∙ e)))

pub returns-then-retention-eq0 : goal.returns-then-retention-eq0
returns-then-retention-eq0 c =
    sym (number-zero _ _ _ (omega arith) (sym c.retention.ensures ∙ c.if-retention-ne0.false) (omega arith))

pub returns-then-retention-gt-MAX_RETENTION : goal.returns-then-retention-gt-MAX_RETENTION
returns-then-retention-gt-MAX_RETENTION c =
    sym (number-long _ _ _ (omega arith) (sym c.retention.ensures ∙ c.if-retention-ne0.false) (omega arith))

pub returns : goal.returns
returns c =
    let none = sym c.retention.ensures ∙ c.if-retention-ne0.false in
    sym (number-none _ _ _ (omega arith) none c.if-retention-eq0.false (omega arith))
