-- `accounts::matching::entries_match` meets its contract: `good` is the test of the entries passed.
use mathlib.Core.Path.{◌≡◌}
use Rattle.book.specs.Layout.{book_of}
use Rattle.accounts.specs.Entries.{entries_match}
use Rattle.accounts.proofs.matching.entries_match.Given as goal

abbrev pub invariant-loop-p : goal.invariant-loop-p
invariant-loop-p l =
    l.good ≡ entries_match (book_of l.book).entries l.counts l.expiries l.p
