-- The three ways of a block; the part of the pool that was lent comes back as the change's block.
use Prim.Native.Nat.{ℕ, ◌*◌}
use mathlib.Core.Path.{sym, ap, ◌∙◌}
use mathlib.Core.List.{List}
use mathlib.Core.Bool.{not}
use native.Mathlib.Omega.{arith}
use lib.ListN.{length}
use Rattle.words.specs.Blocks.{block_size}
use Rattle.words.proofs.ChoiceLaws.{failed, passed}
use Rattle.words.proofs.Parts.{length_part}
use Rattle.words.proofs.Lending.{lent, spliced}
use Rattle.list.proofs.ReaderLaws.{length-block}
use Rattle.book.specs.Layout.{book_of}
use Rattle.model.specs.Pool.{with_block}
use Rattle.intake.proofs.StoringLaws.{stored-old, stored-free, stored-new}
use Rattle.intake.proofs.storing.store_block.Goals as goal

pub returns-then-is_held : goal.returns-then-is_held
returns-then-is_held c =
    let a = c.args in
    stored-old (book_of a.book.now).entries (book_of a.work.now).entries a.taker.now a.list.bytes.now
    a.pool.now a.p.0 (sym c.is_held.ensures ∙ c.if-is_held.true)

pub returns-then-not-is_held : goal.returns-then-not-is_held
returns-then-not-is_held c =
    let free = sym c.is_held.ensures ∙ c.if-is_held.false in
    let a = c.args in
    stored-free (book_of a.book.now).entries (book_of a.work.now).entries a.taker.now a.list.bytes.now
    a.pool.now a.p.0 free (failed c.is_held-2.ensures (ap not c.if-not-is_held.true))

pub overflow_cast-i : goal.overflow_cast-i
overflow_cast-i c =
    let free = sym c.is_held.ensures ∙ c.if-is_held.false in
    let held = passed c.is_held-2.ensures (ap not c.if-not-is_held.false) in
    omega (arith, c.requires.p_bound_2 free held, c.args.list.whole.size)

pub block_of-requires : goal.block_of-requires
block_of-requires c =
    let free = sym c.is_held.ensures ∙ c.if-is_held.false in
    let held = passed c.is_held-2.ensures (ap not c.if-not-is_held.false) in
    c.requires.p_bound_2 free held

pub copy-requires : goal.copy-requires
copy-requires c =
    let free = sym c.is_held.ensures ∙ c.if-is_held.false in
    let held = passed c.is_held-2.ensures (ap not c.if-not-is_held.false) in
    let a = c.args in
    let at = a.p.0 * block_size in
    ap length (lent a.pool.now at block_size)
    ∙ length_part a.pool.now at block_size (omega (arith, c.requires.p_bound.0, c.requires.p_bound.2))
    ∙ sym (ap length c.block_of.ensures
    ∙ length-block a.list.bytes.now a.list.shape c.args.list.whole _ (omega (arith, c.requires.p_bound_2 free held, c.args.list.whole.changes)))

pub returns : goal.returns
returns c =
    let free = sym c.is_held.ensures ∙ c.if-is_held.false in
    let held = passed c.is_held-2.ensures (ap not c.if-not-is_held.false) in
    let a = c.args in
    spliced a.pool.now c.copy.new.dst (a.p.0 * block_size) block_size
    ∙ ap (λ (m : List ℕ). with_block a.pool.now a.p.0 m) (c.copy.ensures ∙ c.block_of.ensures)
    ∙ stored-new (book_of a.book.now).entries (book_of a.work.now).entries a.taker.now a.list.bytes.now
    a.pool.now a.p.0 free held
