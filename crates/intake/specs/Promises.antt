-- What a backup leaves, for all inputs: its number, its answers, book and pool, by the definition on bytes of `model`.
-- The spare alone is free.
use Rattle.std.specs.Prelude.{ℕ, ◌≡◌, List, length, Result}
use Rattle.words.specs.Lent.{Lent}
use Rattle.words.specs.Outcome.{Outcome, accepted, and_then}
use Rattle.words.specs.Refusals.{outcome_by}
use Rattle.words.specs.declared.refusals.Refusal.{Refusal}
use Rattle.intake.specs.declared.backup.Backed.{Backed}
use Rattle.model.specs.OnBytes.{number_of, BackedBytes, backup_bytes, after}

-- what the call comes to, by what it is lent
abbrev pub outcome : (b pool spare : Lent (List ℕ)) → (v t : ℕ) → Lent (List ℕ) → Outcome BackedBytes
outcome b pool spare v t list =
    backup_bytes b.entry.now pool.entry.now (length spare.entry.now) v t list.entry.now

-- a backup's answers
abbrev pub answers : BackedBytes → Backed
answers d = record { number = d.number; taken = d.taken; touched = d.touched }

-- r is what the call returns: its answers, or the refusal
pub record BacksUp (b pool spare : Lent (List ℕ)) (v t : ℕ) (list : Lent (List ℕ)) (r : Result Backed Refusal) : Type 0 where
  pub book : b.exit.now ≡ after (λ d. d.book) (outcome b pool spare v t list) b.entry.now
  pub stored : pool.exit.now ≡ after (λ d. d.pool) (outcome b pool spare v t list) pool.entry.now
  pub answer : outcome_by (λ a. a) r ≡ and_then (outcome b pool spare v t list) (λ d. accepted (answers d))

-- the same for C: n, m and k have what a backup answers: its number, the blocks taken, the entries touched. r is what the call returns
pub record BackedUp (b pool spare : Lent (List ℕ)) (v t : ℕ) (list : Lent (List ℕ)) (n m k : Lent ℕ) (r : ℕ)
    : Type 0 where
  pub refusal : r ≡ number_of (outcome b pool spare v t list)
  pub book : b.exit.now ≡ after (λ d. d.book) (outcome b pool spare v t list) b.entry.now
  pub stored : pool.exit.now ≡ after (λ d. d.pool) (outcome b pool spare v t list) pool.entry.now
  pub number : n.exit.now ≡ after (λ d. d.number) (outcome b pool spare v t list) n.entry.now
  pub taken : m.exit.now ≡ after (λ d. d.taken) (outcome b pool spare v t list) m.entry.now
  pub touched : k.exit.now ≡ after (λ d. d.touched) (outcome b pool spare v t list) k.entry.now
