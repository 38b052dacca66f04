use Prim.Native.Nat.{ℕ, ◌+◌, ◌-◌, ◌<◌}
use mathlib.Core.Path.{◌≡◌, sym, ap, ◌∙◌}
use mathlib.Core.List.{List}
use native.Mathlib.Omega.{arith}
use lib.Dec.{eqb}
use lib.ListN.{get_or, take, drop}
use lib.Seq.{get_or-take, get_or-drop}
use Rattle.words.proofs.Each.{each_none, each-grow}
use Rattle.words.proofs.Parts.{length_part}
use Rattle.sections.proofs.zeros.zeros.Goals as goal

-- the test of a byte of a part is that of the byte where it stands
part-test : (b : List ℕ) (o m i k : ℕ) → i < m → o + i ≡ k → eqb (get_or (take m (drop o b)) i 0) 0 ≡ eqb (get_or b k 0) 0
part-test b o m i k h e =
    ap (λ (x : ℕ). eqb x 0) (get_or-take m (drop o b) i 0 h ∙ get_or-drop o b i 0 ∙ ap (λ (n : ℕ). get_or b n 0) e)

pub loop-x-init : goal.loop-x-init
loop-x-init c = sym (each_none _ _ _ (omega arith))

pub loop-x-preserved : goal.loop-x-preserved
loop-x-preserved c =
    let a = c.args in
    let l = c.loop-x in
    let long = length_part a.b.now a.from (a.to - a.from) (omega arith) in
    let next : a.from + (l.x-index + 1) ≡ a.from + l.x-index + 1 = omega arith in
    rw next (each-grow _ _ _ (omega arith) l.invariant (part-test a.b.now _ _ l.x-index (a.from + l.x-index) (omega (arith, long)) (omega arith)))

pub returns : goal.returns
returns c =
    let a = c.args in
    let long = length_part a.b.now a.from (a.to - a.from) (omega arith) in
    let e : a.from + c.loop-x.x-index ≡ a.to = omega (arith, long) in
    rw e at c.loop-x.invariant
