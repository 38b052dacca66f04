-- `setup::format::format` meets its contract: the two tests are those of number 1, and each way out leaves what
-- the definition says.
use mathlib.Core.Path.{ap, refl}
use mathlib.Core.Bool.{not}
use native.Mathlib.Omega.{arith}
use Rattle.words.proofs.ChoiceLaws.{failed, passed}
use Rattle.book.proofs.Holding.{bounds_ok}
use Rattle.setup.proofs.FormatExits.{format_sizes, format_length, format_done}
use Rattle.setup.proofs.format.format.Goals as goal

pub returns-then-not-in_range : goal.returns-then-not-in_range
returns-then-not-in_range c =
    let z = c.args.sizes in
    format_sizes _ z.n z.l z.s z.j refl (failed c.in_range.ensures (ap not c.if-not-in_range.true))

pub returns-then-book-size : goal.returns-then-book-size
returns-then-book-size c =
    let z = c.args.sizes in
    format_length _ z.n z.l z.s z.j refl (λ e. omega arith)

pub format-requires-clause-bounds : goal.format-requires-clause-bounds
format-requires-clause-bounds c = bounds_ok _ (passed c.in_range.ensures (ap not c.if-not-in_range.false))

pub returns : goal.returns
returns c =
    let z = c.args.sizes in
    format_done _ z.n z.l z.s z.j (passed c.in_range.ensures (ap not c.if-not-in_range.false)) (omega arith) c.format.ensures
