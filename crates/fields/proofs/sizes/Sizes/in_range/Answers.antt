-- `fields::sizes::Sizes::in_range` meets its contract: the code computes the definition.
use Rattle.book.specs.Form.{sizes_as}
use Rattle.fields.proofs.sizes.Sizes.in_range.Goals as goal

pub returns : goal.returns
unfolding sizes_as
returns c =
    rw (
      c.from_one.ensures,
      c.from_one-2.ensures,
      c.from_one-3.ensures,
      c.from_one-4.ensures,
    )
