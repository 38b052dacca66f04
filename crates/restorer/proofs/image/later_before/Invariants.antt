-- `restorer::image::later_before` meets its contract: the slots left say what all of them say.
use mathlib.Core.Path.{◌≡◌}
use Rattle.book.specs.Layout.{book_of}
use Rattle.restorer.specs.Befores.{before_from}
use Rattle.restorer.proofs.image.later_before.Given as goal

abbrev pub invariant-loop-q : goal.invariant-loop-q
invariant-loop-q l =
    before_from (book_of l.book) l.v l.at l.lbn.0 ≡ before_from (book_of l.book) l.v l.q l.lbn.0
