-- `fields::sizes::from_one` meets its contract: the code computes the definition.
use mathlib.Core.Path.{refl}
use Rattle.book.specs.Form.{between}
use Rattle.fields.proofs.sizes.from_one.Goals as goal

pub returns : goal.returns
unfolding between
returns c = refl
