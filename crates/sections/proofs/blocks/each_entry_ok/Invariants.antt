-- `sections::blocks::each_entry_ok` meets its contract: what is left to test decides as the whole does.
use mathlib.Core.Path.{◌≡◌}
use mathlib.Core.Bool.{◌&&◌}
use Rattle.words.specs.Lists.{each}
use Rattle.book.specs.Layout.{entry_offset, entry_in}
use Rattle.book.specs.Form.{state_ok, entry_ok}
use Rattle.sections.specs.Checks.{entries_ok}
use Rattle.sections.proofs.blocks.each_entry_ok.Given as goal

abbrev pub invariant-loop-p : goal.invariant-loop-p
invariant-loop-p g l =
    entries_ok g.row.LAYOUT l.b l.n
    ≡ each (λ p'. state_ok g.row.LAYOUT l.b p' && entry_ok (entry_in g.row.LAYOUT l.b (entry_offset g.row.LAYOUT p'))) l.p l.n
