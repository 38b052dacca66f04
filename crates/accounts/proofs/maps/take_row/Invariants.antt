-- `accounts::maps::take_row` meets its contract: `good` is the test of the cells passed, and those are counted.
use mathlib.Core.Path.{◌≡◌}
use mathlib.Core.List.{[]}
use lib.ListN.{get_or, take}
use Rattle.book.specs.Layout.{book_of}
use Rattle.accounts.specs.Counts.{Counted}
use Rattle.accounts.specs.TableMaps.{row_matches}
use Rattle.accounts.proofs.maps.take_row.Given as goal

abbrev pub invariant-loop-l : goal.invariant-loop-l
invariant-loop-l l =
    (l.good ≡ row_matches (book_of l.book).maps l.l l.cells l.v)
    × Counted l.initial.counts (take l.l (get_or (book_of l.book).maps l.v [])) l.counts
