use native.Mathlib.Omega.{arith}
use Rattle.book.proofs.Widths.{narrow-offset}
use Rattle.sections.proofs.blocks.narrow_entries_ok.Goals as goal

pub each_entry_ok-requires : goal.each_entry_ok-requires
each_entry_ok-requires c = omega (arith, narrow-offset c.args.n)
