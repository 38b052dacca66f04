-- `form::in_form::blocks_ok` meets its contract, by `blocks_tests`.
use Prim.Native.Nat.{ℕ, ◌*◌}
use mathlib.Core.Path.{◌≡◌, ap}
use native.Mathlib.Omega.{arith}
use Rattle.words.specs.Numbers.{num}
use Rattle.book.specs.Layout.{entry_size, n_offset}
use Rattle.form.proofs.PassLaws.{blocks_tests}
use Rattle.form.proofs.in_form.blocks_ok.Goals as goal

pub layout_entries_ok-requires : goal.layout_entries_ok-requires
layout_entries_ok-requires c =
    let entries-here : c.u16_at-n.result * entry_size c.args.layout
    ≡ num c.args.b.now n_offset * entry_size c.args.layout = ap (λ (n : ℕ). n * entry_size c.args.layout) c.u16_at-n.ensures in
    omega (arith, c.requires.len, c.requires.entries, entries-here)

pub maps_ok-requires : goal.maps_ok-requires
maps_ok-requires c =
    let entries-here : c.u16_at-n.result * entry_size c.args.layout
    ≡ num c.args.b.now n_offset * entry_size c.args.layout = ap (λ (n : ℕ). n * entry_size c.args.layout) c.u16_at-n.ensures in
    omega (arith, c.requires.len, c.requires.entries, entries-here)

pub returns : goal.returns
returns c =
    blocks_tests c.args.b.now c.args.layout c.requires.sizes.layout c.u16_at-n.ensures c.u16_at.ensures
    c.entries_size-maps.ensures.0 c.retentions_ok.ensures c.layout_entries_ok.ensures c.maps_ok.ensures
