-- Each way out by the law of its test.
use Prim.Native.Nat.{ℕ, ◌*◌}
use mathlib.Core.Path.{◌≡◌, sym, ap, ◌∙◌}
use native.Mathlib.Omega.{arith}
use Rattle.std.proofs.lemmas.Result.{err_from_is_err_and}
use Rattle.words.specs.Blocks.{block_size}
use Rattle.words.proofs.Refused.{number-not_zero}
use Rattle.book.proofs.FormBytes.{holds-form}
use Rattle.book.specs.Layout.{book_of}
use Rattle.buffers.proofs.BuffersLaws.{buffers_form, buffers_pool, buffers_good}
use Rattle.buffers.proofs.check.Goals as goal

pub returns-in_err-check : goal.returns-in_err-check
returns-in_err-check c =
    let p = err_from_is_err_and c.from_residual.result c.from_residual.ensures.1 in
    rw (p.1, p.2)
    (c.in_err-check.ensures ∙ sym (buffers_form _ _ (λ z. number-not_zero _ (c.in_err-check.ensures ∙ z))))

pub blocks-requires : goal.blocks-requires
blocks-requires c = holds-form _ (λ i. (c.type_inv.book i).fits) (sym c.in_ok-check.ensures)

pub returns-then-pool-blocks : goal.returns-then-pool-blocks
returns-then-pool-blocks c =
    let size : c.blocks-2.result * block_size ≡ (book_of c.args.book.now).sizes.n * block_size = ap (λ (n : ℕ). n * block_size) c.blocks-2.ensures in
    sym (buffers_pool _ _ (sym c.in_ok-check.ensures) (λ e. omega (arith, size, c.if-pool-blocks.true)))

pub returns : goal.returns
returns c =
    let size : c.blocks-2.result * block_size ≡ (book_of c.args.book.now).sizes.n * block_size = ap (λ (n : ℕ). n * block_size) c.blocks-2.ensures in
    sym (buffers_good _ _ (sym c.in_ok-check.ensures) (omega (arith, size, c.if-pool-blocks.false)))
