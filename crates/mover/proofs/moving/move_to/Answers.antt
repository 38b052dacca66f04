-- The three ways out, each by a law of steps 3 and 4.
use Prim.Native.Nat.{ℕ, ◌+◌}
use mathlib.Core.Path.{refl, sym, ap, ◌∙◌}
use native.Mathlib.Omega.{arith}
use lib.Dec.{eqb}
use lib.ListN.{length}
use Rattle.std.proofs.lemmas.Result.{err_from_is_err_and}
use Rattle.words.specs.Blocks.{unmapped}
use Rattle.words.specs.Choice.{when◌then◌else◌}
use Rattle.book.specs.Book.{Book, entry_at, cell_at}
use Rattle.book.specs.Layout.{book_of}
use Rattle.book.specs.Next.{with_entries}
use Rattle.model.specs.Backup.{name_block}
use Rattle.mover.specs.Stepping.{MovedBy}
use Rattle.mover.proofs.MoveLaws.{cell-ok, move-zero, move-full, move-goes, name-lowered, at_most_two}
use Rattle.mover.proofs.moving.move_to.Goals as goal

pub lower-requires : goal.lower-requires
lower-requires c =
    let x = book_of c.args.work.now in
    let ok = cell-ok x.maps x.sizes.n c.args.v c.args.lbn.0 c.requires.work_value in
    record { holds = c.requires.holds; fact = rw c.cell-before.ensures ok }

pub returns-in_err-lower : goal.returns-in_err-lower
unfolding MovedBy
returns-in_err-lower c =
    let a = c.args in
    let p = err_from_is_err_and c.from_residual.result c.from_residual.ensures.1 in
    let zero = rw c.cell-before.ensures at c.in_err-lower.ensures.number in
    rw (p.1, p.2) (λ pool. move-zero a.v a.until a.lbn.0 a.p.0 (book_of a.work.now) pool a.t _ zero)

pub count-count-requires : goal.count-count-requires
unfolding with_entries
count-count-requires c =
    let i = c.in_ok-lower.ensures.book refl in
    let n = ap (λ (x : Book). x.sizes.n) i.book in
    record { holds = i.holds; p_bound = omega (arith, c.requires.v_lt_volumes.2, n) }

pub returns-then-count : goal.returns-then-count
unfolding MovedBy with_entries
returns-then-count c =
    let a = c.args in
    let goes = sym (rw c.cell-before.ensures at c.in_ok-lower.ensures.number) in
    let low = rw c.cell-before.ensures at (c.in_ok-lower.ensures.book refl).book in
    let counted = c.count-count.ensures ∙ ap (λ (x : Book). (entry_at x.entries a.p.0).count) low in
    λ pool. move-full a.v a.until a.lbn.0 a.p.0 (book_of a.work.now) pool a.t goes (omega (arith, counted, c.if-count.true))

pub name_block-requires : goal.name_block-requires
unfolding with_entries
name_block-requires c =
    let low = c.in_ok-lower.ensures.book refl in
    let i = low.book in
    let n = ap (λ (x : Book). x.sizes.n) i in
    let l = ap (λ (x : Book). x.sizes.l) i in
    let j = ap (λ (x : Book). x.sizes.j) i in
    let u = ap (λ (x : Book). length x.records) i in
    let m = ap (λ (x : Book). cell_at x.maps c.args.v c.args.lbn.0) i in
    record { holds = low.holds; v_lt_volumes = (c.requires.v_lt_volumes.0, omega (arith, c.requires.v_lt_volumes.1), omega (arith, c.requires.v_lt_volumes.2)); work_len_bound = (omega (arith, c.requires.work_len_bound.0), c.cell-before.ensures ∙ sym m); count_value = (c.count-count.ensures, omega (arith, c.if-count.false)) }

pub overflow_add-touched : goal.overflow_add-touched
overflow_add-touched c =
    let few = at_most_two (eqb c.cell-before.result.0 unmapped) in
    omega (arith, c.touches.ensures, few, c.requires.work_len_bound.1)

pub returns : goal.returns
unfolding MovedBy with_entries
returns c =
    let a = c.args in
    let x = book_of a.work.now in
    let goes = sym (rw c.cell-before.ensures at c.in_ok-lower.ensures.number) in
    let low = rw c.cell-before.ensures at (c.in_ok-lower.ensures.book refl).book in
    let counted = c.count-count.ensures ∙ ap (λ (x : Book). (entry_at x.entries a.p.0).count) low in (
      λ pool. move-goes a.v a.until a.lbn.0 a.p.0 x pool a.t goes
          (λ z. c.if-count.false (counted ∙ z))
          _ _
          (c.name_block.ensures.book
          ∙ ap (λ (y : Book). name_block a.v a.lbn.0 a.p.0 y.entries y) low
          ∙ name-lowered a.v a.lbn.0 a.p.0 _ x)
          refl
          (ap (λ (k : ℕ). a.t.touched + k)
          (c.touches.ensures ∙ ap (λ (k : ℕ). when eqb k unmapped then 1 else 2) c.cell-before.ensures)),
      c.name_block.ensures.holds,
    )
