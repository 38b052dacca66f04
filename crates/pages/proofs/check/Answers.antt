-- `check`: longer input is refused by 1, any other by the number of form.
use mathlib.Core.Path.{◌∙◌, sym}
use native.Mathlib.Omega.{arith}
use Rattle.pages.proofs.PageLaws.{long-number, short-number}
use Rattle.pages.proofs.check.Goals as goal

pub returns-then-input-gt-LONGEST : goal.returns-then-input-gt-LONGEST
returns-then-input-gt-LONGEST c = sym (long-number c.args.input.now (omega arith))

pub returns : goal.returns
returns c = c.check.ensures ∙ sym (short-number c.args.input.now (omega arith))
