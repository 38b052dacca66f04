-- Audit by the rules that books of layout 2 were kept by (document 01): days counted from the backup that replaced another. Nothing goes by them
-- any more; they say what a sound book of that layout is.
use Rattle.std.specs.Prelude.{ℕ, ◌+◌, max, Bool, true, not, ◌&&◌, ◌||◌, List, [], ◌∷◌, length, drop, leb, eqb}
use Rattle.words.specs.Choice.{when◌then◌else◌}
use Rattle.words.specs.Lists.{all, up_from}
use Rattle.book.specs.Book.{volumes, Book, entry_at, retention_of}
use Rattle.model.specs.Journal.{Backup, journal, days}
use Rattle.model.specs.Read.{image}
use Rattle.model.specs.Audit.{maps_sound, count_sound, has_before, prints_sound, cell_sound, current_sound}

-- "if it is the volume's newest, or the day of backup k + 1 plus R is ≥ D": by the days of the backups after it
abbrev pub kept_before : List ℕ → ℕ → ℕ → Bool
kept_before [] r d = true
kept_before (t ∷ ts) r d = leb d (t + r)

unfoldable pub kept_two : List ℕ → ℕ → ℕ → ℕ → Bool
kept_two ds r d k = kept_before (drop k ds) r d

-- "each expiry is the largest slot day plus retention over records with that before, 0 if none"
abbrev pub until_two : Book → ℕ → List Backup → ℕ
until_two x p [] = 0
until_two x p (b ∷ bs) = max (when has_before p b.records then b.day + retention_of x b.volume else 0) (until_two x p bs)

unfoldable pub expiry_two : Book → ℕ → Bool
expiry_two x p = eqb (entry_at x.entries p).expiry (until_two x p (journal x))

-- "no kept backup names a free block"
unfoldable pub backup_two : Book → ℕ → ℕ → Bool
backup_two x v k =
    not (kept_two (days x v) (retention_of x v) x.day k)
    || all (λ lbn. cell_sound x (image x v k lbn)) (up_from 0 x.sizes.l)

unfoldable pub backups_two : Book → Bool
backups_two x = all (λ v. all (backup_two x v) (up_from 1 (length (days x v)))) (up_from 0 volumes)

unfoldable pub audit_two : Book → Bool
audit_two x =
    maps_sound x
    && all (count_sound x) (up_from 0 x.sizes.n)
    && all (expiry_two x) (up_from 0 x.sizes.n)
    && prints_sound x
    && current_sound x
    && backups_two x
