-- How many slots a volume has, the last one's day, and whether it is retired, as a walk over the slots finds them.
use Rattle.std.specs.Prelude.{ℕ, ◌≡◌, length}
use Rattle.words.specs.Lists.{last_of}
use Rattle.book.specs.Book.{Book}
use Rattle.model.specs.Journal.{days, is_retired}
use Rattle.permit.specs.declared.backups.Backups.{Backups}

-- what the code answers
pub record BackupsAre (x : Book) (v : ℕ) (r : Backups) : Type 0 where
  pub count : r.count ≡ length (days x v)
  pub last : r.last ≡ last_of 0 (days x v)
  pub retired : r.retired ≡ is_retired x v
