-- A walk up a bucket finds what a search of all blocks from one on does.
use Rattle.std.specs.Prelude.{ℕ, ◌+◌, ◌≤◌, ◌<◌, ◌≡◌, true, List, length, get_or}
use Rattle.book.specs.Book.{Entry, entry_at}
use Rattle.finder.specs.Bucket.{in_bucket, first_in}

-- q is past all blocks or in bucket h, and from q on each block of the bucket has the next one
pub record Chain (es : List Entry) (h : ℕ) (nexts : List ℕ) (q : ℕ) : Type 0 where
  pub within : q ≤ length es
  pub inside : q < length es → in_bucket h (entry_at es q) ≡ true
  pub next : (r : ℕ) → q ≤ r → r < length es → in_bucket h (entry_at es r) ≡ true → get_or nexts r 0 ≡ first_in es h (r + 1)
