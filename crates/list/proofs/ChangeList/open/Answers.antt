-- `ChangeList::open`: what the check answers says the number, and that the bytes are whole.
use mathlib.Core.Path.{refl, sym, ◌∙◌}
use native.Mathlib.Omega.{arith}
use Rattle.pairs.proofs.AnswerLaws.{good-number, refused-number}
use Rattle.list.proofs.ReaderLaws.{good-whole}
use Rattle.list.proofs.ChangeList.open.Goals as goal

pub returns-in_err-shape : goal.returns-in_err-shape
returns-in_err-shape c =
    rw c.from_residual.ensures (refused-number _ _ (sym c.check.ensures ∙ c.in_err-shape.was))

pub invariant_of-result : goal.invariant_of-result
invariant_of-result c =
    record { whole = good-whole c.args.l _ _ (omega arith) (sym c.check.ensures ∙ c.in_ok-shape.was) }

pub returns : goal.returns
returns c = (good-number _ _ _ (sym c.check.ensures ∙ c.in_ok-shape.was), refl)
