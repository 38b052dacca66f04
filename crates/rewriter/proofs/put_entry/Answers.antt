-- `rewriter::put_entry`: a count in the layout's width and what follows it, by `narrow-stored` and `wide-stored`.
use Prim.Native.Nat.{◌+◌, ◌≤◌, ◌<◌}
use mathlib.Core.Path.{refl, ap, ◌∙◌}
use native.Mathlib.Omega.{arith}
use lib.ListN.{length, length-set}
use lib.Seq.{length-sets}
use borrow.Author.Rules.{rules}
use Rattle.book.proofs.Widths.{narrow-entry, wide-entry}
use Rattle.rewriter.proofs.Storing.{narrow-stored, wide-stored}
use Rattle.rewriter.proofs.put_entry.Goals as goal

pub overflow_cast-out : goal.overflow_cast-out
overflow_cast-out t = let h : t.args.count < 256 = t.requires.count_bound.0 (omega arith) in search (rules, h)

pub bounds-out-at : goal.bounds-out-at
bounds-out-at t =
    let room : t.args.at + 20 ≤ length t.args.out.now = omega (arith, t.requires.layout_in_bounds, narrow-entry t.args.layout (omega arith)) in
    let h = room in search (rules, h)

pub put_bytes-requires : goal.put_bytes-requires
put_bytes-requires c =
    let room : c.args.at + 20 ≤ length c.args.out.now = omega (arith, c.requires.layout_in_bounds, narrow-entry c.args.layout (omega arith)) in
    simp length-set (omega (arith, room, c.requires.count_bound.1))

pub shape_of-out-then-layout-eq-NARROW_LAYOUT : goal.shape_of-out-then-layout-eq-NARROW_LAYOUT
shape_of-out-then-layout-eq-NARROW_LAYOUT c = ap length c.put_bytes.ensures ∙ simp (length-sets, length-set)

pub returns-then-layout-eq-NARROW_LAYOUT : goal.returns-then-layout-eq-NARROW_LAYOUT
returns-then-layout-eq-NARROW_LAYOUT c =
    narrow-stored c.args.rest.now c.args.layout c.args.at c.args.count c.requires.count_bound.1 (omega arith) refl
    c.put_bytes.ensures

pub put_u16-requires : goal.put_u16-requires
put_u16-requires c =
    let space : c.args.at + 21 ≤ length c.args.out.now = omega (arith, c.requires.layout_in_bounds, wide-entry c.args.layout (λ e. omega arith)) in
    let h = space in omega (arith, h)

pub put_bytes-requires-2 : goal.put_bytes-requires-2
put_bytes-requires-2 c =
    let space : c.args.at + 21 ≤ length c.args.out.now = omega (arith, c.requires.layout_in_bounds, wide-entry c.args.layout (λ e. omega arith)) in
    omega (arith, space, c.requires.count_bound.1, c.put_u16.auto.b)

pub shape_of-out : goal.shape_of-out
shape_of-out c =
    c.put_bytes-2.auto.b ∙ c.put_u16.auto.b

pub returns : goal.returns
returns c =
    wide-stored c.args.rest.now c.args.layout c.args.at c.args.count c.requires.count_bound.1 (λ e. omega arith)
    c.put_u16.ensures (omega arith) c.put_bytes-2.ensures
