-- Collect (document 01, "The calls"), from number 7 on.
use Rattle.std.specs.Prelude.{ℕ, Bool, ◌&&◌, map, ltb, eqb}
use Rattle.words.specs.Choice.{when◌then◌else◌}
use Rattle.words.specs.Lists.{count_of}
use Rattle.words.specs.Outcome.{Outcome, accepted, unless}
use Rattle.book.specs.Book.{Entry, Book}
use Rattle.book.specs.Next.{with_day, with_entries, made_free}
use Rattle.model.specs.Days.{bad_day}

unfoldable pub collect_number : Book → ℕ → ℕ
collect_number x t = when bad_day x.day t then 7 else 0

-- "each held block with count 0 and expiry < T"
unfoldable pub is_over : ℕ → Entry → Bool
is_over t e = e.held && eqb e.count 0 && ltb e.expiry t

-- .. "becomes free with a zero fingerprint and its expiry kept"
unfoldable pub swept_entry : ℕ → Entry → Entry
swept_entry t e = when is_over t e then made_free e else e

pub record Collected : Type 0 where
  pub book : Book
  pub freed : ℕ

-- "day becomes T. The answer is how many"
unfoldable pub collected : Book → ℕ → Collected
collected x t = record { book = with_day t (with_entries (map (swept_entry t) x.entries) x); freed = count_of (is_over t) x.entries }

unfoldable pub collect : Book → ℕ → Outcome Collected
collect x t = unless (collect_number x t) (accepted (collected x t))
