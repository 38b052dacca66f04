use Prim.Native.Nat.{ℕ, ◌+◌}
use mathlib.Core.Path.{◌≡◌, refl, ap, ◌∙◌}
use mathlib.Core.List.{List}
use lib.Seq.{sets, take-length}
use lib.ListN.{length, take, get_or, set, length-set}
use native.Mathlib.Omega.{arith}
use Rattle.words.proofs.SectionLaws.{sets_more}
use Rattle.words.proofs.put_bytes.Goals as goal

pub loop-i-init : goal.loop-i-init
loop-i-init c = (refl, refl)

pub loop-i-preserved : goal.loop-i-preserved
loop-i-preserved c =
    let l = c.loop-i in
    let a = c.args in (
      ap (λ (x : List ℕ). set x (a.at + l.i) (get_or a.src.now l.i 0)) l.invariant.0
          ∙ sets_more a.src.now a.b.now a.at l.i (omega arith),
      simp length-set l.invariant.1,
    )

pub shape_of-b : goal.shape_of-b
shape_of-b c = c.loop-i.invariant.1

pub returns : goal.returns
returns c =
    let a = c.args in
    let l = c.loop-i in
    let e : l.i ≡ length a.src.now = omega arith in
    l.invariant.0 ∙ ap (λ (k : ℕ). sets a.b.now a.at (take k a.src.now)) e
    ∙ ap (λ (x : List ℕ). sets a.b.now a.at x) (take-length a.src.now)
