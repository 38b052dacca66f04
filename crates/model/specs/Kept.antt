-- Numbers 5, 15 and 16: whether a volume has this backup, and keeps it.
use Rattle.std.specs.Prelude.{ℕ, not, ◌||◌, ltb, eqb}
use Rattle.words.specs.Choice.{when◌then◌else◌}
use Rattle.book.specs.Book.{Book, retention_of}
use Rattle.model.specs.Days.{kept}
use Rattle.model.specs.Journal.{backup_count, days, no_volume}

-- 5: "or not enrolled"; 15: "The number is 0 or above the volume's backups"; 16: "That backup isn't kept"
unfoldable pub kept_number : Book → ℕ → ℕ → ℕ
kept_number x v k =
    when no_volume x v then 5 else
    when eqb k 0 || ltb (backup_count x v) k then 15 else
    when not (kept (days x v) (retention_of x v) x.day k) then 16 else
    0
