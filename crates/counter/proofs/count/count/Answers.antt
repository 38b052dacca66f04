-- `count` meets its contract, by what counting gives on each way out.
use Rattle.std.proofs.lemmas.Result.{err_from_is_err_and}
use native.Mathlib.Omega.{arith}
use Rattle.book.proofs.FormBytes.{holds-form}
use Rattle.counter.proofs.CountedLaws.{counted-refused, counted-up}
use Rattle.counter.proofs.count.count.Goals as goal

pub returns-in_err-check : goal.returns-in_err-check
returns-in_err-check c =
    let p = err_from_is_err_and c.from_residual.result c.from_residual.ensures.1 in
    rw (p.1, p.2) (counted-refused _ _ (omega arith))

pub count_entries-t-requires : goal.count_entries-t-requires
count_entries-t-requires c = holds-form _ (λ i. (c.type_inv.book i).fits) (omega arith)

pub blocks-requires : goal.blocks-requires
blocks-requires c = holds-form _ (λ i. (c.type_inv.book i).fits) (omega arith)

pub returns : goal.returns
returns c = counted-up c.args.book.now (omega arith) c.blocks-2.ensures c.count_entries-t.ensures.0
