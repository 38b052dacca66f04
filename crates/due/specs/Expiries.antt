-- An expiry for each block of the pool, raised record by record.
use Rattle.std.specs.Prelude.{ℕ, ◌<◌, max, ◌≡◌, List, eqb, length, get_or}
use Rattle.words.specs.Choice.{when◌then◌else◌}
use Rattle.book.specs.Book.{Rec}
use Rattle.model.specs.Audit.{has_before}
use Rattle.due.specs.Pool.{pool_blocks}

-- a' is a with block p's expiry at least f p
pub record Raised (a : List ℕ) (f : ℕ → ℕ) (a' : List ℕ) : Type 0 where
  pub long : length a' ≡ length a
  pub at : (p : ℕ) → p < pool_blocks → get_or a' p 0 ≡ max (get_or a p 0) (f p)

-- u for the block c alone
abbrev pub until_one : ℕ → ℕ → ℕ → ℕ
until_one u c p = when eqb c p then u else 0

-- u for each before of the records
abbrev pub until_each : ℕ → List Rec → ℕ → ℕ
until_each u rs p = when has_before p rs then u else 0
