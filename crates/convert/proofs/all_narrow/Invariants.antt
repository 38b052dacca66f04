-- `convert::all_narrow`: `good` is the test of the entries passed.
use mathlib.Core.Path.{◌≡◌}
use Rattle.words.specs.Lists.{each}
use Rattle.book.specs.Book.{entry_at}
use Rattle.book.specs.Layout.{book_of}
use Rattle.model.specs.Convert.{is_narrow}
use Rattle.convert.proofs.all_narrow.Given as goal

abbrev pub invariant-loop-p : goal.invariant-loop-p
invariant-loop-p l =
    l.good ≡ each (λ q. is_narrow (entry_at (book_of l.book).entries q)) 0 l.p
