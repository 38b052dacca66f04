-- What an audit leaves, for all inputs: its number and its answer, by the definition on bytes of `model`.
use Rattle.std.specs.Prelude.{ℕ, ◌≡◌, List}
use Rattle.words.specs.Lent.{Lent}
use Rattle.model.specs.OnBytes.{number_of, audit_bytes, sound_after}

-- r is what the call returns
pub record Audited (book : Lent (List ℕ)) (sound : Lent ℕ) (r : ℕ) : Type 0 where
  pub number : r ≡ number_of (audit_bytes book.entry.now)
  pub answer : sound.exit.now ≡ sound_after (audit_bytes book.entry.now) sound.entry.now
