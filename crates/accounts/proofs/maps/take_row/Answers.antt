use Prim.Native.Nat.{◌*◌}
use mathlib.Core.Path.{◌≡◌, refl}
use mathlib.Core.List.{[]}
use lib.ListN.{get_or, take, length-take}
use lib.Seq.{take_all}
use Rattle.book.specs.Layout.{book_of}
use Rattle.accounts.proofs.CountLaws.{counted_none, counted-cell, counted-le}
use Rattle.accounts.proofs.MatchingLaws.{matching-none, matching-grow}
use Rattle.replay.specs.Table.{row_size}
use Rattle.accounts.specs.TableMaps.{row_matches}
use native.Mathlib.Omega.{arith}
use Rattle.accounts.proofs.maps.take_row.Goals as goal

pub cells-wide-requires : goal.cells-wide-requires
cells-wide-requires c = c.requires.form_facts.holds

pub loop-l-init : goal.loop-l-init
unfolding row_matches
loop-l-init c = (matching-none _ _, counted_none _)

pub cell-named-requires : goal.cell-named-requires
cell-named-requires c =
    record { holds = c.requires.form_facts.holds; v_lt_volumes = (c.requires.v_lt_volumes.0, omega arith) }

pub count_one-requires : goal.count_one-requires
count_one-requires c =
    let l = c.loop-l in
    let p = c.cell-named.result.0 in
    let m = get_or (book_of c.args.book.now).maps c.args.v [] in
    λ h. omega (arith, counted-le (c.args.v * row_size) p h (c.requires.v_lt_volumes.1 p h) l.invariant.1, length-take l.l m)

pub loop-l-preserved : goal.loop-l-preserved
unfolding row_matches
loop-l-preserved c =
    let l = c.loop-l in
    let e = c.cell-named in
    let m = get_or (book_of c.args.book.now).maps c.args.v [] in (
      matching-grow _ _ l.l l.invariant.0 e.ensures refl,
      counted-cell m l.l e.result.0
          (omega (arith, c.requires.form_facts.holds.sized.cells c.args.v c.requires.v_lt_volumes.0)) e.ensures l.invariant.1
          c.count_one.ensures,
    )

pub returns : goal.returns
returns c =
    let l = c.loop-l in
    let x = book_of c.args.book.now in
    let m = get_or x.maps c.args.v [] in
    let all : l.l ≡ x.sizes.l = omega arith in
    let wide = c.requires.form_facts.holds.sized.cells c.args.v c.requires.v_lt_volumes.0 in
    let whole : take l.l m ≡ m = take_all l.l m (omega (arith, wide)) in
    record { test = rw all at l.invariant.0; counts = rw whole at l.invariant.1 }
