use Prim.Native.Nat.{◌+◌, ◌-◌}
use mathlib.Core.Path.{◌≡◌, sym, ◌∙◌}
use native.Mathlib.Omega.{arith}
use Rattle.auditor.proofs.HeldPrints.{differ-none, differ-turn, differ-all}
use Rattle.auditor.proofs.prints.prints_sound.Goals as goal

pub loop-p-init : goal.loop-p-init
loop-p-init c =
    let n = c.blocks-p.ensures in (
      rw n c.clear.ensures,
      sym (differ-none _ c.blocks-p.result (omega (arith, n, c.requires.holds.sized.entries))),
    )

pub loop-p-preserved : goal.loop-p-preserved
loop-p-preserved c =
    let l = c.loop-p in
    let e : l.p - 1 + 1 ≡ l.p = omega arith in
    let r = c.link_apart-good.ensures in (
      r.indexed_from_2,
      differ-turn _ (l.p - 1) l.good (omega (arith, c.requires.holds.sized.entries)) (rw e l.invariant.1)
          r.value,
    )

pub returns : goal.returns
returns c =
    let l = c.loop-p in
    let e : l.p ≡ 0 = omega arith in
    rw e at l.invariant.1 ∙ differ-all _
