-- What a retirement leaves, for all inputs: its number, its answer and the book, by the definition on bytes of `model`.
-- The spare alone is free.
use Rattle.std.specs.Prelude.{ℕ, ◌≡◌, List, length, Result}
use Rattle.words.specs.Lent.{Lent}
use Rattle.words.specs.Outcome.{Outcome, accepted, and_then}
use Rattle.words.specs.Refusals.{outcome_by}
use Rattle.words.specs.declared.refusals.Refusal.{Refusal}
use Rattle.model.specs.OnBytes.{number_of, RetiredBytes, retire_bytes, after}

-- what the call comes to, by what it is lent
abbrev pub outcome : (b spare : Lent (List ℕ)) → (v t : ℕ) → Outcome RetiredBytes
outcome b spare v t = retire_bytes b.entry.now (length spare.entry.now) v t

-- r is how many cells were cleared, or the refusal
pub record Retires (b spare : Lent (List ℕ)) (v t : ℕ) (r : Result ℕ Refusal) : Type 0 where
  pub book : b.exit.now ≡ after (λ d. d.book) (outcome b spare v t) b.entry.now
  pub answer : outcome_by (λ n. n) r ≡ and_then (outcome b spare v t) (λ d. accepted d.cells)

-- the same for C: n has what a retirement answers: how many cells were cleared. r is what the call returns
pub record RetiredBy (b spare : Lent (List ℕ)) (v t : ℕ) (n : Lent ℕ) (r : ℕ) : Type 0 where
  pub refusal : r ≡ number_of (outcome b spare v t)
  pub book : b.exit.now ≡ after (λ d. d.book) (outcome b spare v t) b.entry.now
  pub cells : n.exit.now ≡ after (λ d. d.cells) (outcome b spare v t) n.entry.now
