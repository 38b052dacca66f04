-- What a collect leaves, for all inputs: its number, its answer and the book, by the definition on bytes of `model`.
use Rattle.std.specs.Prelude.{ℕ, ◌≡◌, List, Result}
use Rattle.words.specs.Lent.{Lent}
use Rattle.words.specs.Outcome.{accepted, and_then}
use Rattle.words.specs.Refusals.{outcome_by}
use Rattle.words.specs.declared.refusals.Refusal.{Refusal}
use Rattle.model.specs.OnBytes.{number_of, collect_bytes, after}

-- r is how many blocks became free, or the refusal
pub record Collects (b : Lent (List ℕ)) (t : ℕ) (r : Result ℕ Refusal) : Type 0 where
  pub book : b.exit.now ≡ after (λ d. d.book) (collect_bytes b.entry.now t) b.entry.now
  pub answer : outcome_by (λ n. n) r ≡ and_then (collect_bytes b.entry.now t) (λ d. accepted d.freed)

-- the same for C: r is what the call returns
pub record Swept (b : Lent (List ℕ)) (t : ℕ) (freed : Lent ℕ) (r : ℕ) : Type 0 where
  pub number : r ≡ number_of (collect_bytes b.entry.now t)
  pub book : b.exit.now ≡ after (λ d. d.book) (collect_bytes b.entry.now t) b.entry.now
  pub answer : freed.exit.now ≡ after (λ d. d.freed) (collect_bytes b.entry.now t) freed.entry.now
