-- `form::in_form::head_ok` meets its contract: the code computes the definition, on the numbers read.
use Rattle.sections.specs.Checks.{head_ok}
use Rattle.form.proofs.in_form.head_ok.Goals as goal

pub returns : goal.returns
unfolding head_ok
returns c =
    rw (
      c.u16_at-2.ensures,
      c.u16_at.ensures,
      c.u16_at-4.ensures,
      c.u16_at-3.ensures,
      c.u16_at-day.ensures,
      c.u16_at-5.ensures,
      c.u16_at-6.ensures,
      c.u16_at-7.ensures,
    )
