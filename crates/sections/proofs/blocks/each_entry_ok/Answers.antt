use Prim.Native.Nat.{◌+◌, ◌≤◌}
use mathlib.Core.Path.{refl, sym, ap, ◌∙◌}
use mathlib.Core.Bool.{not}
use native.Mathlib.Nat.{mul-le-mul_right}
use native.Mathlib.Omega.{arith}
use Rattle.words.proofs.ChoiceLaws.{failed, passed}
use Rattle.words.proofs.Each.{each_none, each_more, each-stop}
use Rattle.book.specs.Layout.{entry_size}
use Rattle.sections.specs.Checks.{entries_ok}
use Rattle.sections.proofs.blocks.each_entry_ok.Goals as goal

pub loop-p-init : goal.loop-p-init
unfolding entries_ok
loop-p-init g c = refl

pub entry_ok-requires : goal.entry_ok-requires
entry_ok-requires g c =
    let below : c.loop-p.p + 1 ≤ c.args.n = omega arith in
    omega (arith, mul-le-mul_right (entry_size g.row.LAYOUT) below)

pub returns-then-not-entry_ok : goal.returns-then-not-entry_ok
returns-then-not-entry_ok g c =
    let l = c.loop-p in
    sym (l.invariant ∙ each-stop _ _ _ (omega arith) (failed c.entry_ok.ensures (ap not c.if-not-entry_ok.true)))

pub loop-p-preserved : goal.loop-p-preserved
loop-p-preserved g c =
    c.loop-p.invariant ∙ each_more _ _ _ (omega arith) (passed c.entry_ok.ensures (ap not c.if-not-entry_ok.false))

pub returns : goal.returns
returns g c = sym (c.loop-p.invariant ∙ each_none _ _ _ (omega arith))
