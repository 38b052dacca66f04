-- A book whose expiries are the numbers of a table.
use Rattle.std.specs.Prelude.{ℕ, List}
use Rattle.words.specs.Sections.{tab}
use Rattle.book.specs.Book.{Book, entry_at}
use Rattle.book.specs.Next.{with_entries, expiry_as, with_entry}
use Rattle.due.specs.Pool.{number_at}

-- of block p alone
unfoldable pub with_expiry : List ℕ → ℕ → Book → Book
with_expiry a p x = with_entry (expiry_as (number_at a p)) p x

unfoldable pub with_expiries : List ℕ → Book → Book
with_expiries a x = with_entries (tab x.sizes.n (λ p. expiry_as (number_at a p) (entry_at x.entries p))) x
