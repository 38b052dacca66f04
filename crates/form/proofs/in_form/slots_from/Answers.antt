-- `form::in_form::slots_from`: the entries are those of the book's layout.
use Prim.Native.Nat.{ℕ, ◌*◌}
use mathlib.Core.Path.{ap}
use native.Mathlib.Omega.{arith}
use Rattle.book.specs.Layout.{entry_size}
use Rattle.form.proofs.in_form.slots_from.Goals as goal

pub returns : goal.returns
returns c =
    let n = ap (λ (k : ℕ). k * entry_size c.args.layout) c.u16_at.ensures in
    omega (arith, c.requires.entries, c.entries_size.ensures.0, n)
