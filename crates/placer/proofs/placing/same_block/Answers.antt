-- The block's bytes stand in the pool or in the list, by the old book.
use Prim.Native.Nat.{ℕ, ◌*◌}
use mathlib.Core.Path.{sym, ap₂, ◌∙◌}
use mathlib.Core.List.{List}
use native.Mathlib.Omega.{arith}
use Rattle.words.specs.Blocks.{block_size}
use Rattle.words.specs.Lists.{same}
use Rattle.words.proofs.Lending.{lent}
use Rattle.book.specs.Layout.{book_of}
use Rattle.placer.proofs.PoolLaws.{in_pool, in_list}
use Rattle.placer.proofs.placing.same_block.Goals as goal

pub returns-then-is_held : goal.returns-then-is_held
returns-then-is_held c =
    let a = c.args in
    let held = sym c.is_held.ensures ∙ c.if-is_held.true in
    c.same_bytes.ensures
    ∙ ap₂ (λ (u v : List ℕ). same u v)
    (lent a.pool.now (a.p.0 * block_size) block_size
    ∙ sym (in_pool (book_of a.book.now).entries a.taker.now a.list.bytes.now a.pool.now a.p.0 held))
    c.block_of-block.ensures

pub overflow_cast-taker : goal.overflow_cast-taker
overflow_cast-taker c =
    omega (arith, c.requires.p_bound_2 (sym c.is_held.ensures ∙ c.if-is_held.false), c.args.list.whole.size)

pub block_of-requires : goal.block_of-requires
block_of-requires c = c.requires.p_bound_2 (sym c.is_held.ensures ∙ c.if-is_held.false)

pub returns : goal.returns
returns c =
    let a = c.args in
    let free = sym c.is_held.ensures ∙ c.if-is_held.false in
    c.same_bytes-2.ensures
    ∙ ap₂ (λ (u v : List ℕ). same u v)
    (c.block_of.ensures
    ∙ sym (in_list (book_of a.book.now).entries a.taker.now a.list.bytes.now a.pool.now a.p.0 free))
    c.block_of-block.ensures
