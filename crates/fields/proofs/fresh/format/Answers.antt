-- `fields::fresh::format`: what the two steps left, by `is-fresh`.
use Rattle.book.proofs.FreshBook.{is-fresh}
use Rattle.book.specs.Layout.{current, entry_size}
use Rattle.fields.specs.InLayout.{in_layout}
use borrow.Author.Rules.{rules}
use Rattle.fields.proofs.fresh.format.Goals as goal

pub blank-requires : goal.blank-requires
unfolding entry_size
blank-requires c = search rules

pub returns : goal.returns
unfolding entry_size
returns c =
    let a = c.args in
    is-fresh (in_layout current a.sizes) c.requires.bounds c.blank.ensures c.put_sizes.ensures
