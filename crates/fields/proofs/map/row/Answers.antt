-- `fields::map::row`: the part at its offset, by `row_at`.
use mathlib.Core.Path.{◌∙◌, ap}
use Prim.Native.Nat.{ℕ, ◌+◌, ◌*◌, ◌≤◌}
use lib.ListN.{length, take, drop}
use native.Mathlib.Nat.{add-sub_cancel_left}
use native.Mathlib.Omega.{arith}
use Rattle.book.proofs.Read.{row_room, row_at}
use Rattle.fields.proofs.map.row.Goals as goal

pub overflow_mul-from : goal.overflow_mul-from
overflow_mul-from c =
    let from : ℕ = c.maps_from.result + c.args.v * (c.cells.result * 2) in
    let inside : from + c.cells.result * 2 ≤ length c.args.book.now = omega (arith, row_room c.args.v c.cells.result c.requires.v_lt_volumes) in
    omega (arith, inside)

pub overflow_add-from : goal.overflow_add-from
overflow_add-from c =
    let from : ℕ = c.maps_from.result + c.args.v * (c.cells.result * 2) in
    let inside : from + c.cells.result * 2 ≤ length c.args.book.now = omega (arith, row_room c.args.v c.cells.result c.requires.v_lt_volumes) in
    omega (arith, inside)

pub overflow_add-end : goal.overflow_add-end
overflow_add-end c =
    let from : ℕ = c.maps_from.result + c.args.v * (c.cells.result * 2) in
    let inside : from + c.cells.result * 2 ≤ length c.args.book.now = omega (arith, row_room c.args.v c.cells.result c.requires.v_lt_volumes) in
    omega (arith, inside)

pub slice_bounds-result-end : goal.slice_bounds-result-end
slice_bounds-result-end c =
    let from : ℕ = c.maps_from.result + c.args.v * (c.cells.result * 2) in
    let inside : from + c.cells.result * 2 ≤ length c.args.book.now = omega (arith, row_room c.args.v c.cells.result c.requires.v_lt_volumes) in
    omega (arith, inside)

pub returns : goal.returns
returns c =
    let from : ℕ = c.maps_from.result + c.args.v * (c.cells.result * 2) in
    let b = c.args.book.now in
    let l = c.cells.ensures in
    ap (λ (n : ℕ). take n (drop from b)) (add-sub_cancel_left from (c.cells.result * 2))
    ∙ ap (λ (n : ℕ). take (n * 2) (drop from b)) l
    ∙ row_at b c.args.v from (λ i. (c.shared_slice_known-1.given i).fits)
    c.requires.holds c.requires.v_lt_volumes (rw (c.maps_from.ensures, l))
