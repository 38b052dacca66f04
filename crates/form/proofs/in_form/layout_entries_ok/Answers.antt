-- `form::in_form::layout_entries_ok`: each width has its loop, and the widths are those of `narrow-entry` and `wide-entry`.
use Prim.Native.Nat.{ℕ, ◌*◌}
use mathlib.Core.Path.{sym, ap, ◌∙◌}
use native.Mathlib.Omega.{arith}
use Rattle.book.specs.Layout.{current}
use Rattle.book.proofs.Widths.{narrow-entry, wide-entry, wide-count}
use Rattle.sections.specs.Checks.{entries_ok}
use Rattle.sections.proofs.CheckLaws.{entries-same}
use Rattle.form.proofs.in_form.layout_entries_ok.Goals as goal

pub narrow_entries_ok-requires : goal.narrow_entries_ok-requires
narrow_entries_ok-requires c =
    let a = c.args in
    omega (arith, ap (λ (k : ℕ). a.n * k) (narrow-entry a.layout (omega arith)))

pub returns-then-layout-eq-NARROW_LAYOUT : goal.returns-then-layout-eq-NARROW_LAYOUT
returns-then-layout-eq-NARROW_LAYOUT c =
    let a = c.args in
    c.narrow_entries_ok.ensures ∙ ap (λ (g : ℕ). entries_ok g a.b.now a.n) (omega arith)

pub entries_ok-requires : goal.entries_ok-requires
entries_ok-requires c =
    let a = c.args in
    omega (arith, ap (λ (k : ℕ). a.n * k) (wide-entry a.layout (λ e. omega arith)))

pub returns : goal.returns
returns c =
    let a = c.args in
    c.entries_ok.ensures ∙ entries-same current a.layout (sym (wide-count a.layout (λ e. omega arith))) a.b.now a.n
