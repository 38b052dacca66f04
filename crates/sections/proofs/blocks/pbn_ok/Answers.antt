-- `sections::blocks::pbn_ok` meets its contract: the code computes the definition.
use mathlib.Core.Path.{refl}
use Rattle.book.specs.Form.{pbn_ok}
use Rattle.sections.proofs.blocks.pbn_ok.Goals as goal

pub returns : goal.returns
unfolding pbn_ok
returns c = refl
