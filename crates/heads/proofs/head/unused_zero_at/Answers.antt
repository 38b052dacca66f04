-- `heads::head::unused_zero_at`: the test on what the head has.
use mathlib.Core.Path.{sym, ◌∙◌}
use Rattle.calls.specs.Coding.{unused_zero_at}
use Rattle.heads.proofs.KindLaws.{kind_above}
use Rattle.heads.proofs.head.unused_zero_at.Goals as goal

pub returns-in-Ok : goal.returns-in-Ok
unfolding unused_zero_at
returns-in-Ok c =
    c.unused_zero.ensures
    ∙ rw (
      c.in-Ok.ensures,
      c.u16_at-a.ensures,
      c.u16_at-b.ensures,
      c.u16_at-c.ensures,
      c.u16_at-d.ensures,
      c.data_size-size.ensures.0,
    )

pub returns-in-Err : goal.returns-in-Err
unfolding unused_zero_at
returns-in-Err c = sym (kind_above _ _ _ _ _ _ c.in-Err.ensures.1)
