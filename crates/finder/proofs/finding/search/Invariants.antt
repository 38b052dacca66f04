-- The loop's invariant: q is in the bucket, and the lowest block with the fingerprint is the same from q on.
use Prim.Native.Nat.{◌-◌}
use mathlib.Core.Path.{◌≡◌}
use Rattle.book.specs.Layout.{book_of}
use Rattle.finder.specs.First.{first_from}
use Rattle.finder.specs.Bucket.{bucket_of, has_print}
use Rattle.finder.specs.Finding.{Chain}
use Rattle.finder.proofs.finding.search.Given as goal

abbrev pub invariant-loop-q : goal.invariant-loop-q
invariant-loop-q l =
    Chain (book_of l.book).entries (bucket_of l.print) l.nexts l.q
    × (first_from (has_print l.print) (book_of l.book).entries l.from ≡ first_from (has_print l.print) (book_of l.book).entries l.q)

abbrev pub decreases-loop-q : goal.decreases-loop-q
decreases-loop-q l =
    l.n - l.q
