-- What a read that gives an offset leaves, for all inputs: its number and its answer, by the definitions on bytes of
-- `model`.
use Rattle.std.specs.Prelude.{ℕ, ◌≡◌, List}
use Rattle.words.specs.Lent.{Lent}
use Rattle.model.specs.OnBytes.{after, read_number_bytes, read_place_bytes}

-- r is what the call returns, at is its answer
pub record Located (b pool : Lent (List ℕ)) (v k lbn : ℕ) (at : Lent ℕ) (r : ℕ) : Type 0 where
  pub number : r ≡ read_number_bytes b.entry.now pool.entry.now v k lbn
  pub answer : at.exit.now ≡
      after (λ p. p) (read_place_bytes b.entry.now pool.entry.now v k lbn) at.entry.now
