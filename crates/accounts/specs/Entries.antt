-- The entries gone through once: each count and each expiry against what was gathered for its block.
use Rattle.std.specs.Prelude.{ℕ, Bool, ◌&&◌, List, eqb}
use Rattle.book.specs.Book.{Entry, entry_at}
use Rattle.due.specs.Pool.{number_at}
use Rattle.accounts.specs.Counts.{count_of_block}
use Rattle.accounts.specs.Matching.{matching}

abbrev pub expiry_of_block : List Entry → ℕ → ℕ
expiry_of_block es p = (entry_at es p).expiry

module _ (es : List Entry) (counts expiries : List ℕ) where
  unfoldable pub entry_matches : ℕ → Bool
  entry_matches p = eqb (count_of_block es p) (number_at counts p) && eqb (expiry_of_block es p) (number_at expiries p)

  -- the entries below n
  unfoldable pub entries_match : ℕ → Bool
  entries_match n = matching (count_of_block es) (number_at counts) n && matching (expiry_of_block es) (number_at expiries) n
