-- `convert::room_for`: each way out is the definition's.
use mathlib.Core.Path.{sym, ap, ◌∙◌}
use native.Mathlib.Omega.{arith}
use Rattle.std.proofs.lemmas.Result.{err_from_is_err_and}
use Rattle.words.specs.Outcome.{accepted}
use Rattle.book.proofs.FormNumber.{form-parts, layout-facts}
use Rattle.book.specs.Layout.{book_size}
use Rattle.book.specs.Next.{sizes_in}
use Rattle.convert.proofs.Exits.{size-refused, size_short, size_told}
use Rattle.convert.proofs.room_for.Goals as goal

pub returns-in_err-check_as : goal.returns-in_err-check_as
returns-in_err-check_as c =
    let p = err_from_is_err_and c.from_residual.result c.from_residual.ensures.1 in
    rw (p.1, p.2) (size-refused _ _ _ _ _ c.in_err-check_as.ensures)

pub of-requires : goal.of-requires
of-requires c = (layout-facts c.args.from _ (form-parts c.args.from _ (sym c.in_ok-check_as.ensures)).0).header

pub returns-then-room-len : goal.returns-then-room-len
returns-then-room-len c =
    let a = c.args in
    let e = c.size_as-len.ensures ∙ ap (λ z. book_size (sizes_in a.to z)) c.of.ensures in
    size_short a.from a.to a.book.now a.room (sym c.in_ok-check_as.ensures) (omega (arith, e))

pub returns : goal.returns
returns c =
    let a = c.args in
    let e = c.size_as-len.ensures ∙ ap (λ z. book_size (sizes_in a.to z)) c.of.ensures in
    ap (λ n. accepted n) e ∙ size_told a.from a.to a.book.now a.room (sym c.in_ok-check_as.ensures) (omega (arith, e))
