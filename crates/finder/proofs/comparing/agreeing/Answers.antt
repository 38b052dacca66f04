use Prim.Native.Nat.{◌-◌}
use mathlib.Core.Path.{◌≡◌, refl}
use native.Mathlib.Omega.{arith}
use Rattle.finder.specs.FarEnd.{agreeing}
use Rattle.finder.proofs.FarEndLaws.{turn-agrees, turn_differs}
use Rattle.finder.proofs.comparing.agreeing.Goals as goal

pub loop-i-init : goal.loop-i-init
unfolding agreeing
loop-i-init c = refl

pub returns-then-a-i : goal.returns-then-a-i
returns-then-a-i c =
    let l = c.loop-i in
    let x = c.args in
    let z = turn_differs x.a.now x.b.now l.i (l.i - 1) (omega arith) (λ e. omega (arith, c.if-a-i.true, e)) in
    omega (arith, l.invariant, z)

pub loop-i-preserved : goal.loop-i-preserved
loop-i-preserved c =
    let l = c.loop-i in
    let x = c.args in
    let z = turn-agrees x.a.now x.b.now l.i (l.i - 1) (omega arith) (omega (arith, c.if-a-i.false)) in
    omega (arith, l.invariant, z)

pub returns : goal.returns
returns c =
    let l = c.loop-i in
    let z : l.i ≡ 0 = omega arith in
    omega (arith, rw z at l.invariant)
