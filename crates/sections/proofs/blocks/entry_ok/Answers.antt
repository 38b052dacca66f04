-- `sections::blocks::entry_ok` meets its contract: layout 1 has its width, and any other the wide one.
use Prim.Native.Nat.{ℕ, ◌+◌, ◌*◌}
use mathlib.Core.Path.{◌≡◌, refl, sym, ap, ◌∙◌}
use native.Mathlib.Omega.{arith}
use borrow.Author.Tests.{ne_eqb}
use Rattle.book.specs.Layout.{entries_from, count_in}
use Rattle.book.proofs.Widths.{narrow-offset, wide-entry, wide-count}
use Rattle.sections.proofs.CheckLaws.{entry_tests}
use Rattle.sections.proofs.blocks.entry_ok.Goals as goal

pub returns-then-this-eq-NARROW_LAYOUT : goal.returns-then-this-eq-NARROW_LAYOUT
returns-then-this-eq-NARROW_LAYOUT g c =
    let p = c.args.p in
    let e : g.row.LAYOUT ≡ 1 = omega arith in
    rw e (entry_tests 1 c.args.b.now p (entries_from + p * 20) (narrow-offset p) c.rest_ok.ensures c.from.ensures (omega arith))

pub returns : goal.returns
returns g c =
    let p = c.args.p in
    let no : g.row.LAYOUT ≡ 1 → ⊥ = λ e. omega (arith, e) in
    let place = ap (λ (k : ℕ). entries_from + p * k) (sym (wide-entry g.row.LAYOUT no)) in
    let count : c.u16_at.result ≡ count_in g.row.LAYOUT c.args.b.now (entries_from + p * 21) = c.u16_at.ensures ∙ rw (ne_eqb g.row.LAYOUT 1 no) refl in
    entry_tests g.row.LAYOUT c.args.b.now p (entries_from + p * 21) place c.rest_ok-2.ensures count (omega (arith, wide-count g.row.LAYOUT no))
