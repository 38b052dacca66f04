-- `fields::sizes::entries_size`: the two sizes of an entry, by `narrow-entry` and `wide-entry`.
use Prim.Native.Nat.{ℕ, ◌*◌}
use mathlib.Core.Path.{sym, ap}
use native.Mathlib.Omega.{arith}
use Rattle.book.proofs.Widths.{narrow-entry, wide-entry}
use Rattle.fields.proofs.sizes.entries_size.Goals as goal

pub returns-then-layout-eq-NARROW_LAYOUT : goal.returns-then-layout-eq-NARROW_LAYOUT
returns-then-layout-eq-NARROW_LAYOUT c =
    let a = c.args in
    (ap (λ (k : ℕ). a.n * k) (sym (narrow-entry a.layout (omega arith))), omega arith)

pub returns : goal.returns
returns c =
    let a = c.args in
    (ap (λ (k : ℕ). a.n * k) (sym (wide-entry a.layout (λ e. omega arith))), omega arith)
