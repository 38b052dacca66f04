-- `rewriter::count_size`: one byte in layout 1, two in any other.
use mathlib.Core.Path.{sym}
use native.Mathlib.Omega.{arith}
use borrow.Author.Tests.{eq-eqb}
use Rattle.book.proofs.Widths.{wide-count}
use Rattle.rewriter.proofs.count_size.Goals as goal

pub returns-then-layout-eq-NARROW_LAYOUT : goal.returns-then-layout-eq-NARROW_LAYOUT
returns-then-layout-eq-NARROW_LAYOUT c = (rw (eq-eqb c.args.layout 1 (omega arith)), omega arith)

pub returns : goal.returns
returns c = (sym (wide-count c.args.layout (λ e. omega arith)), omega arith)
