-- What the two tables of the index say of the entries.
use Rattle.std.specs.Prelude.{ℕ, ◌+◌, ◌≤◌, ◌<◌, ◌≡◌, true, List, length, get_or}
use Rattle.book.specs.Book.{Entry, entry_at}
use Rattle.finder.specs.Bucket.{table_size, bucket_of, first_in}

-- the tables index the held blocks from p on: `heads` has the first of each bucket, `nexts` the next one of a block's
-- own bucket
pub record IndexedFrom (p : ℕ) (es : List Entry) (heads nexts : List ℕ) : Type 0 where
  pub head : (h : ℕ) → h < table_size → get_or heads h 0 ≡ first_in es h p
  pub next : (q : ℕ) → p ≤ q → q < length es → (entry_at es q).held ≡ true
      → get_or nexts q 0 ≡ first_in es (bucket_of (entry_at es q).print) (q + 1)
  pub buckets : length heads ≡ table_size
  pub blocks : length nexts ≡ table_size
  pub small : length es ≤ table_size

-- all held blocks
abbrev pub Indexed : List Entry → List ℕ → List ℕ → Type 0
Indexed es heads nexts = IndexedFrom 0 es heads nexts
