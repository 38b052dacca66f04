-- Read (document 01, "The calls"), from number 5 on.
use Rattle.std.specs.Prelude.{ℕ, not, ◌||◌, List, map, drop, leb, ltb, eqb}
use Rattle.std.proofs.Math.Option.{Option, none, some}
use Rattle.words.specs.Blocks.{unmapped}
use Rattle.words.specs.Choice.{when◌then◌else◌}
use Rattle.words.specs.Lists.{first_that, joined}
use Rattle.words.specs.Outcome.{Outcome, accepted, unless}
use Rattle.book.specs.Book.{Rec, Book, cell_at, retention_of}
use Rattle.model.specs.Days.{kept}
use Rattle.model.specs.Journal.{backup_count, Backup, slots_of, days, no_volume}
use Rattle.model.specs.Pool.{block_at}

abbrev pub records_of : List Backup → List Rec
records_of bs = joined (map (λ (b : Backup). b.records) bs)

abbrev pub before_or : ℕ → Option Rec → ℕ
before_or p none = p
before_or p (some r) = r.before

-- "the before of that LBN's first record in the volume's backups after k, else the current map"; "a read looks through [the retire slot's]
-- records too" (document 02, K6)
unfoldable pub image : Book → ℕ → ℕ → ℕ → ℕ
image x v k lbn = before_or (cell_at x.maps v lbn) (first_that (λ r. eqb r.lbn lbn) (records_of (drop k (slots_of x v))))

unfoldable pub read_number : Book → ℕ → ℕ → ℕ → ℕ
read_number x v k lbn =
    when no_volume x v then 5 else
    when eqb k 0 || ltb (backup_count x v) k then 15 else
    when not (kept (days x v) (retention_of x v) x.day k) then 16 else
    when leb x.sizes.l lbn then 17 else
    when eqb (image x v k lbn) unmapped then 18 else
    0

-- "The block comes back as that part of the lent pool"
unfoldable pub read : Book → List ℕ → ℕ → ℕ → ℕ → Outcome (List ℕ)
read x pool v k lbn = unless (read_number x v k lbn) (accepted (block_at pool (image x v k lbn)))
