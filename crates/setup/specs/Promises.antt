-- What format and enrol leave, for all inputs: number and book, by the definitions on bytes of `model`.
use Rattle.std.specs.Prelude.{ℕ, ◌≡◌, List}
use Rattle.words.specs.Lent.{Lent}
use Rattle.book.specs.Next.{new_sizes}
use Rattle.model.specs.OnBytes.{number_of, book_after, format_bytes, enrol_bytes}

-- r is what the call returns
pub record Formatted (b : Lent (List ℕ)) (n l s j r : ℕ) : Type 0 where
  pub number : r ≡ number_of (format_bytes b.entry.now (new_sizes n l s j))
  pub book : b.exit.now ≡ book_after (format_bytes b.entry.now (new_sizes n l s j)) b.entry.now

pub record Enrolled (b : Lent (List ℕ)) (v retention r : ℕ) : Type 0 where
  pub number : r ≡ number_of (enrol_bytes b.entry.now v retention)
  pub book : b.exit.now ≡ book_after (enrol_bytes b.entry.now v retention) b.entry.now
