-- Each volume's last day before a slot, and the last day that is counted from it.
use Rattle.std.specs.Prelude.{ℕ, ◌<◌, ◌≡◌, List, length, get_or}
use Rattle.book.specs.Book.{volumes, Book, retention_of}
use Rattle.model.specs.Audit.{due_of}
use Rattle.model.specs.Journal.{Backup}
use Rattle.model.specs.JournalAt.{last_before}

-- a has the days before slot q
pub record LastsAre (x : Book) (q : ℕ) (a : List ℕ) : Type 0 where
  pub long : length a ≡ volumes
  pub at : (v : ℕ) → v < volumes → get_or a v 0 ≡ last_before x q v

-- the last day for which a backup of the book keeps what it replaced
abbrev pub due_in : Book → Backup → ℕ
due_in x b = due_of (retention_of x b.volume) b
