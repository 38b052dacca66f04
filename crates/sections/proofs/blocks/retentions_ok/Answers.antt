use Prim.Native.Nat.{ℕ}
use mathlib.Core.Path.{◌≡◌, sym, ap}
use native.Mathlib.Omega.{arith}
use lib.Dec.{leb}
use Rattle.words.proofs.Each.{each_none, each-grow}
use Rattle.book.specs.Form.{retention_ok}
use Rattle.sections.specs.Checks.{retentions_ok}
use Rattle.sections.proofs.blocks.retentions_ok.Goals as goal

pub loop-v-init : goal.loop-v-init
loop-v-init c = sym (each_none _ _ _ (omega arith))

pub loop-v-preserved : goal.loop-v-preserved
unfolding retention_ok
loop-v-preserved c =
    let test = ap (λ (r : ℕ). leb r 5000) c.u16_at.ensures in
    each-grow _ _ _ (omega arith) c.loop-v.invariant test

pub returns : goal.returns
unfolding retentions_ok
returns c =
    let e : c.loop-v.v ≡ 8 = omega arith in
    rw e at c.loop-v.invariant
