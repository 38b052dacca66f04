-- What telling a volume's backups leaves, for all inputs: number, output and answer, by `model`'s definitions on bytes.
use Rattle.std.specs.Prelude.{ℕ, ◌≡◌, List, length, Result}
use Rattle.words.specs.Lent.{Lent}
use Rattle.words.specs.Outcome.{Outcome, accepted, and_then}
use Rattle.words.specs.Refusals.{refusal_number, outcome_by}
use Rattle.words.specs.declared.refusals.Refusal.{Refusal}
use Rattle.book.specs.Layout.{told}
use Rattle.model.specs.Journal.{backup_count}
use Rattle.model.specs.OnBytes.{after}
use Rattle.model.specs.Views.{backups_bytes}
use Rattle.model.specs.Written.{Written}

abbrev rows_for : Lent (List ℕ) → ℕ → Lent (List ℕ) → Outcome (List ℕ)
rows_for b v out = backups_bytes b.entry.now v (length out.entry.now)

-- r is how many backups there are, or the refusal
pub record BackupsGiven (b : Lent (List ℕ)) (v : ℕ) (out : Lent (List ℕ)) (r : Result ℕ Refusal) : Type 0 where
  pub written : Written (rows_for b v out) out.entry.now (refusal_number r) out.exit.now
  pub count : outcome_by (λ n. n) r ≡ and_then (rows_for b v out) (λ c. accepted (backup_count (told b.entry) v))

-- the same for C: n is how many backups there are, r what the call returns
pub record BackupsTold (b : Lent (List ℕ)) (v : ℕ) (out : Lent (List ℕ)) (n : Lent ℕ) (r : ℕ) : Type 0 where
  pub written : Written (rows_for b v out) out.entry.now r out.exit.now
  pub count : n.exit.now ≡ after (λ c. backup_count (told b.entry) v) (rows_for b v out) n.entry.now
