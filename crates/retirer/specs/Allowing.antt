-- Numbers 1 to 10 of a retirement, as the code checks them, and what it knows when none refuses.
use Rattle.std.specs.Prelude.{ℕ, ◌+◌, ◌≤◌, ◌<◌, ◌≡◌, List, length, Result, Ok, Err}
use Rattle.words.specs.Lent.{Lent}
use Rattle.words.specs.Outcome.{Outcome, refused, accepted, and_then}
use Rattle.book.specs.Book.{volumes, Book}
use Rattle.book.specs.Layout.{book_of}
use Rattle.book.specs.FormFacts.{FormFacts}
use Rattle.model.specs.Backup.{until_next}
use Rattle.model.specs.Retire.{mapped_cells, retired}
use Rattle.model.specs.OnBytes.{RetiredBytes, retired_bytes, retire_bytes}
use Rattle.retirer.specs.Clearing.{clear_all}
use Rattle.retirer.specs.declared.allowing.Plan.{Plan}
use Rattle.words.specs.Refusals.{number}
use Rattle.words.specs.declared.refusals.Refusal.{Refusal}

-- what a retirement comes to when none of numbers 1 to 10 refuses it
abbrev pub goes_on : Book → ℕ → ℕ → Outcome RetiredBytes
goes_on x v t = and_then (clear_all v (until_next x v) x) (λ (y : Book). accepted (retired_bytes (retired x v t y)))

-- what the call knows then
pub record Ready (b : List ℕ) (spare v t : ℕ) (plan : Plan) : Type 0 where
  pub formed : FormFacts b
  pub spared : length b ≤ spare
  pub volume : v < volumes
  pub slot : length (book_of b).slots < (book_of b).sizes.s
  pub room : length (book_of b).records + mapped_cells (book_of b) v ≤ (book_of b).sizes.j
  pub until : plan.until ≡ until_next (book_of b) v
  pub cells : plan.cells ≡ mapped_cells (book_of b) v
  pub goes : retire_bytes b spare v t ≡ goes_on (book_of b) v t

unfoldable pub AllowedBy : Lent (List ℕ) → (spare v t : ℕ) → Result Plan Refusal → Type 0
AllowedBy book spare v t (Ok plan) = Ready book.entry.now spare v t plan
AllowedBy book spare v t (Err e) = retire_bytes book.entry.now spare v t ≡ refused (number e)
