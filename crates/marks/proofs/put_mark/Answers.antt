-- `put_mark`: the three cases of a mark; the pair of a run that ends is two numbers.
use Prim.Native.Nat.{ℕ, ◌+◌, ◌≤◌}
use mathlib.Core.Path.{◌≡◌, ap, ◌∙◌}
use mathlib.Core.Bool.{false}
use mathlib.Core.List.{List}
use lib.ListN.{length}
use native.Mathlib.Omega.{arith}
use Rattle.words.specs.Numbers.{put}
use Rattle.runs.specs.Passing.{goes_on}
use Rattle.marks.proofs.Marks.{row-grows, row_stops, ended-on, ended-none, pair-none, pair-room, pair_put}
use Rattle.marks.proofs.put_mark.Goals as goal

pub returns-then-p-row : goal.returns-then-p-row
returns-then-p-row c =
    let a = c.args in
    let e = c.row_after-row.ensures in
    let n = ended-on a.lbn a.p.row a.mark (row-grows _ _ _ e c.if-p-row.true) in
    record { pair = pair-none _ _ _ _ _ n; row = e }

pub returns-then-p-eq0 : goal.returns-then-p-eq0
returns-then-p-eq0 c =
    let a = c.args in
    let n = ended-none a.lbn a.p.row a.mark c.if-p-eq0.true in
    let e = c.row_after-row.ensures in
    record { pair = pair-none _ _ _ _ _ n; row = omega (arith, c.if-p-eq0.true, c.if-p-row.false, e) }

pub put_u16-requires : goal.put_u16-requires
put_u16-requires c =
    let ended : goes_on c.args.p.row c.args.mark ≡ false = row_stops _ _ _ c.row_after-row.ensures c.if-p-row.false in
    let room : (let a = c.args in a.p.at + 4 ≤ length a.list.now) =
    let a = c.args in
    pair-room a.list.now a.p.at a.lbn a.p.row a.mark ended c.if-p-eq0.false c.requires.2
    in
    omega (arith, room)

pub put_u16-requires-2 : goal.put_u16-requires-2
put_u16-requires-2 c =
    let ended : goes_on c.args.p.row c.args.mark ≡ false = row_stops _ _ _ c.row_after-row.ensures c.if-p-row.false in
    let room : (let a = c.args in a.p.at + 4 ≤ length a.list.now) =
    let a = c.args in
    pair-room a.list.now a.p.at a.lbn a.p.row a.mark ended c.if-p-eq0.false c.requires.2
    in
    omega (arith, room, c.put_u16.auto.b)

pub returns : goal.returns
returns c =
    let ended : goes_on c.args.p.row c.args.mark ≡ false = row_stops _ _ _ c.row_after-row.ensures c.if-p-row.false in
    let a = c.args in
    record {
      pair =
          pair_put a.list.now a.p.at a.lbn a.p.row a.mark ended c.if-p-eq0.false
          (c.put_u16-2.ensures ∙ ap (λ (x : List ℕ). put x (a.p.at + 2) a.p.row) c.put_u16.ensures);
      row = c.row_after-row.ensures;
    }
