-- What the check of a backup answers: numbers 5, 15 and 16, or where the volume's later backups start.
use Rattle.std.specs.Prelude.{ℕ, ◌≡◌, drop, Result, Ok, Err}
use Rattle.book.specs.Book.{Book}
use Rattle.model.specs.Journal.{slots_of}
use Rattle.model.specs.JournalAt.{own_from}
use Rattle.model.specs.Kept.{kept_number}
use Rattle.words.specs.Refusals.{number}
use Rattle.words.specs.declared.refusals.Refusal.{Refusal}

-- a backup that is there and kept, with the volume's backups after it, or the refusal
abbrev pub KeptIs : Book → ℕ → ℕ → Result ℕ Refusal → Type 0
KeptIs x v k (Ok at) = (kept_number x v k ≡ 0) × (drop k (slots_of x v) ≡ own_from x v at)
KeptIs x v k (Err e) = kept_number x v k ≡ number e
