use mathlib.Core.Path.{ap, ◌∙◌}
use native.Mathlib.Omega.{arith}
use Rattle.runs.specs.Changes.{change_count}
use Rattle.list.proofs.ReaderLaws.{length-block}
use Rattle.book.specs.Book.{Sizes}
use Rattle.book.specs.Layout.{book_of}
use Rattle.placer.proofs.PoolLaws.{Known}
use Rattle.intake.proofs.StoringLaws.{stored-none, stored_more, stored-all}
use Rattle.intake.proofs.storing.store_all.Goals as goal

pub blocks-n-requires : goal.blocks-n-requires
blocks-n-requires c = c.requires.holds.0

pub loop-p-init : goal.loop-p-init
loop-p-init c = stored-none _ _ _ _ _ (rw c.requires.holds.0.sized.entries c.requires.storable.size)

pub store_block-requires : goal.store_block-requires
store_block-requires c =
    let n = c.blocks-n.ensures in
    let l = c.loop-p in
    let m = ap (λ (z : Sizes). z.n) c.requires.storable.sizes in
    record { holds = c.requires.holds; p_bound = (omega (arith, c.loop-p-test.true), omega (arith, c.loop-p-test.true), l.auto.pool ∙ c.requires.storable.size); p_bound_2 = c.requires.storable.marks l.p }

pub loop-p-preserved : goal.loop-p-preserved
loop-p-preserved c =
    let known : (let a = c.args in
    Known (book_of a.book.now).entries (book_of a.work.now).entries a.taker.now a.list.bytes.now
    a.pool.now (change_count a.list.bytes.now)) =
    let s = c.requires.storable in
    record {
      size = rw c.requires.holds.0.sized.entries s.size;
      whole = length-block c.args.list.bytes.now c.args.list.shape c.args.list.whole;
      marks = λ p f e. omega (arith, s.marks p f e, c.args.list.whole.changes);
    }
    in
    let a = c.args in
    let l = c.loop-p in
    rw c.store_block.ensures
    (stored_more (book_of a.book.now).entries (book_of a.work.now).entries a.taker.now a.list.bytes.now
    a.pool.now (change_count a.list.bytes.now) known l.pool l.p
    (omega (arith, c.blocks-n.ensures, c.requires.holds.0.sized.entries, c.loop-p-test.true)) l.invariant)

pub returns : goal.returns
returns c =
    let l = c.loop-p in
    stored-all _ _ _ _ _ l.pool l.p (omega (arith, c.blocks-n.ensures, c.requires.holds.0.sized.entries, c.loop-p-test.false)) l.invariant
