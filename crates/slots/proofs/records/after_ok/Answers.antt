-- `slots::records::after_ok` meets its contract: it goes by the definition's test.
use mathlib.Core.Path.{sym, ap}
use mathlib.Core.Bool.{Bool}
use Rattle.slots.specs.Records.{after_in}
use Rattle.slots.proofs.records.after_ok.Goals as goal

pub returns-then-retire : goal.returns-then-retire
unfolding after_in
returns-then-retire c =
    let a = c.args in
    ap (λ (r : Bool). after_in r a.n a.after) (sym c.if-retire.true)

pub returns : goal.returns
unfolding after_in
returns c =
    let a = c.args in
    ap (λ (r : Bool). after_in r a.n a.after) (sym c.if-retire.false)
