-- `sections::blocks::retentions_ok` meets its contract: `good` is the test of the retentions passed.
use mathlib.Core.Path.{◌≡◌}
use Rattle.words.specs.Lists.{each}
use Rattle.words.specs.Numbers.{num}
use Rattle.book.specs.Layout.{retention_offset}
use Rattle.book.specs.Form.{retention_ok}
use Rattle.sections.proofs.blocks.retentions_ok.Given as goal

abbrev pub invariant-loop-v : goal.invariant-loop-v
invariant-loop-v l =
    l.good ≡ each (λ v'. retention_ok (num l.b (retention_offset v'))) 0 l.v
