-- The journal as contracts of functions over it say it: the backup that a slot holds, a volume's own from a slot on, and what
-- an LBN's first record says.
use Rattle.std.specs.Prelude.{ℕ, Bool, false, not, ◌||◌, List, [], ◌∷◌, eqb, leb, get_or, take, drop}
use Rattle.std.proofs.Math.Option.{none}
use Rattle.book.specs.Book.{Slot, Rec, Book, cell_at, retention_of}
use Rattle.model.specs.Journal.{Backup, last_day, since_of, journal, slots_in}
use Rattle.words.specs.Blocks.{unmapped}
use Rattle.words.specs.Lists.{first_that, all, up_from}
use Rattle.model.specs.Audit.{due_of, cell_sound}
use Rattle.model.specs.Read.{records_of, before_or}

abbrev pub no_backup : Backup
no_backup = record { volume = 0; day = 0; retire = false; prev = none; records = [] }

-- the backup that slot q holds
abbrev pub backup_at : Book → ℕ → Backup
backup_at x q = get_or (journal x) q no_backup

-- ---- the slots before slot q

-- slots ts behind those that are gone, the newest first
abbrev pub gone_after : List Slot → List Slot → List Slot
gone_after gone [] = gone
gone_after gone (t ∷ ts) = gone_after (t ∷ gone) ts

-- the volume's last day before slot q, 0 where there is none
abbrev pub last_before : Book → ℕ → ℕ → ℕ
last_before x q v = since_of (last_day v (gone_after [] (take q x.slots)))

-- ---- the volume's backups in the slots from q on

unfoldable pub own_from : Book → ℕ → ℕ → List Backup
own_from x v q = slots_in v (drop q (journal x))

-- of these, the one in slot q, where it is the volume's
abbrev pub own_at : Book → ℕ → ℕ → List Backup
own_at x v q = slots_in v (backup_at x q ∷ [])

-- the before of the first record of l, else p
abbrev pub first_before : ℕ → List Rec → ℕ → ℕ
first_before l rs p = before_or p (first_that (λ r. eqb r.lbn l) rs)

-- what the volume had at an LBN before its backups in the slots from q on: the first before among them, else the current map
unfoldable pub image_from : Book → ℕ → ℕ → ℕ → ℕ
image_from x v q lbn = first_before lbn (records_of (own_from x v q)) (cell_at x.maps v lbn)

-- a backup that reaches the day has replaced blocks that are held still: its first records' befores are unmapped or held
unfoldable pub taken_sound : Book → Backup → Bool
taken_sound x b =
    not (leb x.day (due_of (retention_of x b.volume) b))
    || all (λ l. cell_sound x (first_before l b.records unmapped)) (up_from 0 x.sizes.l)
