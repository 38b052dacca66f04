use native.Mathlib.Omega.{arith}
use Rattle.book.proofs.Widths.{offset-now}
use Rattle.sections.proofs.blocks.entries_ok.Goals as goal

pub each_entry_ok-requires : goal.each_entry_ok-requires
each_entry_ok-requires c = omega (arith, offset-now c.args.n)
