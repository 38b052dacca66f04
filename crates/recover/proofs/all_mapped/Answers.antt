use Prim.Native.Nat.{ℕ, ◌+◌, ◌-◌}
use mathlib.Core.Path.{◌≡◌, sym, ap, ◌∙◌}
use mathlib.Core.Bool.{not}
use native.Mathlib.Omega.{arith}
use lib.Dec.{eqb}
use lib.ListN.{drop}
use lib.Seq.{get_or-take, get_or-drop}
use Rattle.words.proofs.Each.{each_none, each-grow}
use Rattle.words.proofs.Parts.{length_part}
use Rattle.words.specs.Blocks.{unmapped}
use Rattle.recover.proofs.all_mapped.Goals as goal

pub loop-p-init : goal.loop-p-init
loop-p-init c = sym (each_none _ _ _ (omega arith))

pub loop-p-preserved : goal.loop-p-preserved
loop-p-preserved c =
    let a = c.args in
    let b = a.image.now in
    let i = c.loop-p.p-index in
    let long = length_part b a.first (a.end - a.first) (omega arith) in
    let at = get_or-take (a.end - a.first) (drop a.first b) i 0 (omega (arith, long)) ∙ get_or-drop a.first b i 0 in
    let next : a.first + (i + 1) ≡ a.first + i + 1 = omega arith in
    rw next (each-grow _ _ _ (omega arith) c.loop-p.invariant (ap (λ (p : ℕ). not (eqb p unmapped)) at))
