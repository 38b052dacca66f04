-- `blocks`: each way out is one of the definition.
use mathlib.Core.Path.{sym}
use native.Mathlib.Omega.{arith}
use Rattle.std.proofs.lemmas.Result.{err_from_is_err_and}
use Rattle.words.proofs.Refused.{number-not_zero}
use Rattle.book.proofs.FormBytes.{holds-form}
use Rattle.rows.proofs.Exits.{blocks_misformed, blocks-short, blocks-done, rows-length}
use Rattle.rows.proofs.blocks.blocks.Goals as goal

pub returns-in_err-check : goal.returns-in_err-check
returns-in_err-check c =
    let p = err_from_is_err_and c.from_residual.result c.from_residual.ensures.1 in
    rw (p.1, p.2) (blocks_misformed _ _ c.in_err-check.ensures (number-not_zero _))

pub blocks-requires : goal.blocks-requires
blocks-requires c = holds-form _ (λ i. (c.type_inv.book i).fits) (sym c.in_ok-check.ensures)

pub returns-then-out-blocks : goal.returns-then-out-blocks
returns-then-out-blocks c =
    let holds = holds-form c.args.book.now (λ i. (c.type_inv.book i).fits) (sym c.in_ok-check.ensures) in
    blocks-short _ _ (sym c.in_ok-check.ensures) (omega (arith, rows-length _ holds c.blocks-2.ensures))

pub put_blocks-requires : goal.put_blocks-requires
put_blocks-requires c =
    let holds = holds-form c.args.book.now (λ i. (c.type_inv.book i).fits) (sym c.in_ok-check.ensures) in
    record { holds = holds; book_in_bounds = omega (arith, rows-length _ holds c.blocks-2.ensures) }

pub returns : goal.returns
returns c =
    let holds = holds-form c.args.book.now (λ i. (c.type_inv.book i).fits) (sym c.in_ok-check.ensures) in
    blocks-done _ _ (sym c.in_ok-check.ensures) (omega (arith, rows-length _ holds c.blocks-2.ensures)) c.put_blocks.ensures
