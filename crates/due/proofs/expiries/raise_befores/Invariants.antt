-- `super::expiries::raise_befores` meets its contract: what is left of the records decides as the whole does.
use lib.Seq.{slice}
use Rattle.book.specs.Layout.{book_of}
use Rattle.due.specs.Expiries.{until_each}
use Rattle.due.proofs.ExpiryLaws.{Raising}
use Rattle.due.proofs.expiries.raise_befores.Given as goal

abbrev pub invariant-loop-q : goal.invariant-loop-q
invariant-loop-q l =
    Raising l.initial.expiries (until_each l.until (slice l.from l.end (book_of l.book).records)) l.expiries
    (until_each l.until (slice l.q l.end (book_of l.book).records))
