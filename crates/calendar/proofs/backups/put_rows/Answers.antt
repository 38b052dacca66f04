use Prim.Native.Nat.{ℕ, ◌≤◌}
use mathlib.Core.Path.{◌≡◌, ap, ◌∙◌}
use mathlib.Core.List.{List, ◌++◌}
use native.Mathlib.Omega.{arith}
use lib.ListN.{length}
use lib.Seq.{length-sets}
use Rattle.words.proofs.LayingLaws.{left-room, left-more, left-none}
use Rattle.book.proofs.Conditions.{retention_in}
use Rattle.book.specs.Layout.{told}
use Rattle.calendar.specs.Row.{row_from}
use Rattle.calendar.proofs.Rows.{rows_from, rows_left, rows_next, rows_end}
use Rattle.calendar.proofs.backups.put_rows.Goals as goal

pub used_slots-used-requires : goal.used_slots-used-requires
used_slots-used-requires c = c.requires.form_facts.holds

pub retention-days-requires : goal.retention-days-requires
retention-days-requires c =
    record { holds = c.requires.form_facts.holds; v_lt_volumes = c.requires.v_lt_volumes.0 }

pub next_own-q-requires : goal.next_own-q-requires
next_own-q-requires c = c.requires.form_facts.holds

pub loop-q-init : goal.loop-q-init
loop-q-init c =
    let p = c.requires in
    (rows_left c.next_own-q.ensures p.v_lt_volumes.1, c.next_own-q.ensures.own)

pub next_own-next-requires : goal.next_own-next-requires
next_own-next-requires c = c.requires.form_facts.holds

pub put_row-at-requires : goal.put_row-at-requires
put_row-at-requires c =
    let row : List ℕ =
    let a = c.args in
    row_from (told a.book) c.loop-q.q c.next_own-next.result c.retention-days.result
    in
    let after : List ℕ =
    let a = c.args in
    rows_from (told a.book) a.v c.next_own-next.result
    in
    let next_row : (let a = c.args in
    rows_from (told a.book) a.v c.loop-q.q ≡ row ++ after) =
    let l = c.loop-q in
    let p = c.requires.form_facts.parts in
    rows_next p.pairs (omega arith) (l.invariant.1 (omega arith)) c.retention-days.ensures c.next_own-next.ensures
    in
    let l = c.loop-q in
    let most = retention_in (told c.args.book) c.requires.form_facts.parts c.args.v in
    let few : c.retention-days.result ≤ 5000 = omega (arith, most, c.retention-days.ensures) in
    record { form_facts = c.requires.form_facts; q_in_bounds = (omega arith, few); days_in_bounds = left-room l.invariant.0 row after next_row }

pub loop-q-smaller : goal.loop-q-smaller
loop-q-smaller c = omega (arith, c.next_own-next.ensures.above)

pub loop-q-preserved : goal.loop-q-preserved
loop-q-preserved c =
    let row : List ℕ =
    let a = c.args in
    row_from (told a.book) c.loop-q.q c.next_own-next.result c.retention-days.result
    in
    let after : List ℕ =
    let a = c.args in
    rows_from (told a.book) a.v c.next_own-next.result
    in
    let next_row : (let a = c.args in
    rows_from (told a.book) a.v c.loop-q.q ≡ row ++ after) =
    let l = c.loop-q in
    let p = c.requires.form_facts.parts in
    rows_next p.pairs (omega arith) (l.invariant.1 (omega arith)) c.retention-days.ensures c.next_own-next.ensures
    in
    let l = c.loop-q in
    (left-more l.invariant.0 row after next_row c.put_row-at.ensures, c.next_own-next.ensures.own)

pub returns : goal.returns
returns c = (left-none c.loop-q.invariant.0 (rows_end _ _ c.loop-q.q (omega arith))).list

pub shape_of-out : goal.shape_of-out
shape_of-out c = ap length (returns c) ∙ simp length-sets
