-- `super::expiries::gather` meets its contract: what is left of the journal decides as the whole does.
use lib.ListN.{drop}
use Rattle.book.specs.Layout.{book_of}
use Rattle.model.specs.Audit.{until_in}
use Rattle.model.specs.Journal.{journal}
use Rattle.due.specs.Lasts.{LastsAre}
use Rattle.due.proofs.ExpiryLaws.{Raising}
use Rattle.due.proofs.expiries.gather.Given as goal

abbrev pub invariant-loop-q : goal.invariant-loop-q
invariant-loop-q l =
    Raising l.initial.expiries (λ p. until_in (book_of l.book) p (journal (book_of l.book))) l.expiries
    (λ p. until_in (book_of l.book) p (drop l.q (journal (book_of l.book))))
    × LastsAre (book_of l.book) l.q l.lasts
