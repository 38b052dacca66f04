-- A volume's slots after its k-th, as a walk over the slots finds them, and whether the backup in that one is kept.
use Rattle.std.specs.Prelude.{ℕ, suc, ◌+◌, ◌-◌, ◌<◌, ◌≤◌, ◌≡◌, Bool, ◌||◌, leb, length, get_or, drop, Result, Ok, Err}
use Rattle.book.specs.Book.{Book, slot_at}
use Rattle.model.specs.Journal.{slots_of, days}
use Rattle.model.specs.JournalAt.{no_backup, own_from}
use Rattle.keeping.specs.declared.After.{After}
use Rattle.keeping.specs.declared.Short.{Short}

-- what the code answers where the volume has a k-th slot
pub record KthIs (x : Book) (v k : ℕ) (r : After) : Type 0 where
  pub enough : k ≤ length (days x v)
  pub taken : (j : ℕ) → suc j ≡ k → r.taken ≡ get_or (days x v) j 0
  pub retire : (j : ℕ) → suc j ≡ k → r.retire ≡ (get_or (slots_of x v) j no_backup).retire
  pub later : drop k (slots_of x v) ≡ own_from x v r.at
  pub own : r.at < length x.slots → (slot_at x.slots r.at).volume ≡ v

-- what it answers where the volume has none; by `later` and `own` slot `at` is past the used slots
pub record ShortIs (x : Book) (v k : ℕ) (s : Short) : Type 0 where
  pub few : length (days x v) < k
  pub missing : s.missing ≡ k - length (days x v)
  pub later : drop k (slots_of x v) ≡ own_from x v s.at
  pub own : s.at < length x.slots → (slot_at x.slots s.at).volume ≡ v

-- what it answers
abbrev pub AfterIs : Book → ℕ → ℕ → Result After Short → Type 0
AfterIs x v k (Err s) = ShortIs x v k s
AfterIs x v k (Ok r) = KthIs x v k r

-- ---- kept

-- "if it is the newest or its own day plus retention is ≥ D": its own day is t, and slot `at` is the volume's next; that may be its retirement, and
-- then "the newest is no longer exempt" (document 02, K6)
unfoldable pub kept_from : Book → ℕ → ℕ → ℕ → Bool
kept_from x t at r = leb (length x.slots) at || leb x.day (t + r)
