-- The loop's invariant: the search from `from` is the search from the block reached.
use mathlib.Core.Path.{◌≡◌}
use Rattle.book.specs.Book.{is_free}
use Rattle.book.specs.Layout.{book_of}
use Rattle.placer.specs.Search.{place_in}
use Rattle.placer.proofs.find.first_free.Given as goal

abbrev pub invariant-loop-p : goal.invariant-loop-p
invariant-loop-p l =
    place_in is_free (book_of l.book).entries l.from l.to ≡ place_in is_free (book_of l.book).entries l.p l.to
