-- The bucket of a fingerprint, and the blocks in a bucket.
use Rattle.std.specs.Prelude.{ℕ, ◌+◌, ◌*◌, ◌-◌, ◌/◌, ◌%◌, Bool, not, ◌&&◌, List, eqb, drop}
use Rattle.words.specs.Blocks.{print_size}
use Rattle.words.specs.Lists.{some_of, same}
use Rattle.words.specs.Numbers.{num}
use Rattle.book.specs.Book.{Entry, entry_at}
use Rattle.finder.specs.First.{first_from}

-- the numbers of each table: one for each bucket, and one for each block of the largest pool
abbrev pub table_size : ℕ
table_size = 4096

-- the top 12 of the 32 bits that the two bytes at each end have after a multiplication
unfoldable pub bucket_of : List ℕ → ℕ
bucket_of f = (num f 0 + num f (print_size - 2) * 65536) * 2654435769 / 1048576 % table_size

-- a held block whose fingerprint is in bucket h; one with fingerprint f, the test of step 1 of a backup
unfoldable pub in_bucket : ℕ → Entry → Bool
in_bucket h e = e.held && eqb (bucket_of e.print) h

unfoldable pub has_print : List ℕ → Entry → Bool
has_print f e = e.held && same e.print f

-- block p is free, or no held block above it has its fingerprint
unfoldable pub apart : List Entry → ℕ → Bool
apart es p = not ((entry_at es p).held && some_of (has_print (entry_at es p).print) (drop (p + 1) es))

-- the lowest block of bucket h from a on, or their number where there is none
abbrev pub first_in : List Entry → ℕ → ℕ → ℕ
first_in es h a = first_from (in_bucket h) es a
