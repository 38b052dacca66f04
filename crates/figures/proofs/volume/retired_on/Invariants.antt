-- `figures::volume::retired_on` meets its contract: what is asked of all slots is asked of those from q on.
use mathlib.Core.Path.{◌≡◌}
use Rattle.book.specs.Layout.{book_of}
use Rattle.model.specs.Journal.{slots_of}
use Rattle.model.specs.JournalAt.{own_from}
use Rattle.model.specs.Views.{retired_on}
use Rattle.figures.proofs.volume.retired_on.Given as goal

abbrev pub invariant-loop-q : goal.invariant-loop-q
invariant-loop-q l =
    retired_on (slots_of (book_of l.book) l.v) ≡ retired_on (own_from (book_of l.book) l.v l.q)
