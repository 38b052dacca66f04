-- `restorer::image::first_before` meets its contract: the records left say what all of them say.
use mathlib.Core.Path.{◌≡◌}
use Rattle.book.specs.Layout.{book_of}
use Rattle.restorer.proofs.BeforeLaws.{before_span}
use Rattle.restorer.proofs.image.first_before.Given as goal

abbrev pub invariant-loop-q : goal.invariant-loop-q
invariant-loop-q l =
    before_span l.lbn.0 (book_of l.book).records l.first l.q-end ≡ before_span l.lbn.0 (book_of l.book).records l.q l.q-end
