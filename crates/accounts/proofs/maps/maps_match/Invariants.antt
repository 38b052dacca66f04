-- `accounts::maps::maps_match` meets its contract: the rows passed are tested and counted.
use Rattle.book.specs.Layout.{book_of}
use Rattle.accounts.proofs.MapsTakenLaws.{MapsTaking}
use Rattle.accounts.proofs.maps.maps_match.Given as goal

abbrev pub invariant-loop-v : goal.invariant-loop-v
invariant-loop-v l =
    MapsTaking (book_of l.book) l.cells l.v l.good l.counts
