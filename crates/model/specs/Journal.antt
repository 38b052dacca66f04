-- The journal: the book's used slots, each with its records, and those of a volume.
use Rattle.std.specs.Prelude.{ℕ, Bool, not, ◌||◌, List, [], ◌∷◌, map, take, drop, ltb, eqb}
use Rattle.std.proofs.Math.Option.{Option, none, some}
use Rattle.words.specs.Choice.{when◌then◌else◌}
use Rattle.words.specs.Lists.{those, some_of, count_of}
use Rattle.book.specs.Book.{Slot, Rec, Book}
use Rattle.book.specs.Form.{enrolled}

-- what a slot holds: a backup of its volume, or the volume's retirement (document 02, K6)
pub record Backup : Type 0 where
  pub volume : ℕ
  pub day : ℕ
  pub retire : Bool
  -- the day of the volume's backup before it, if the book has one
  pub prev : Option ℕ
  pub records : List Rec

-- the day of the volume's last backup in these slots, the newest of them first
abbrev pub last_day : ℕ → List Slot → Option ℕ
last_day v [] = none
last_day v (t ∷ ts) = when eqb t.volume v then some t.day else last_day v ts

-- the day that its replaced blocks' days are counted from: "the day of the volume's previous backup .., or 0 where a damaged book has none"
-- (document 02, K4)
abbrev pub since_of : Option ℕ → ℕ
since_of none = 0
since_of (some d) = d

-- "the first pair starts at 0, each next where the last ended"; the slots `gone` came before, the newest of them first
abbrev pub journal_of : List Slot → List Slot → List Rec → List Backup
journal_of gone [] rs = []
journal_of gone (t ∷ ts) rs =
    record { volume = t.volume; day = t.day; retire = t.retire; prev = last_day t.volume gone; records = take t.number rs }
    ∷ journal_of (t ∷ gone) ts (drop t.number rs)

unfoldable pub journal : Book → List Backup
journal x = journal_of [] x.slots x.records

-- the volume's slots. "A volume's k-th used slot is its backup number k, from 1": element k - 1, and the slots after k are `drop k`. A retire
-- slot "is no backup and has no number", and no slot of its volume follows it: so it comes behind all numbers
abbrev pub slots_in : ℕ → List Backup → List Backup
slots_in v bs = those (λ b. eqb b.volume v) bs

unfoldable pub slots_of : Book → ℕ → List Backup
slots_of x v = slots_in v (journal x)

-- the days of its slots, a retirement's too
unfoldable pub days : Book → ℕ → List ℕ
days x v = map (λ b. b.day) (slots_of x v)

-- how many backups it has, so that these are the numbers from 1
unfoldable pub backup_count : Book → ℕ → ℕ
backup_count x v = count_of (λ (b : Backup). not b.retire) (slots_of x v)

unfoldable pub is_retired : Book → ℕ → Bool
is_retired x v = some_of (λ (b : Backup). b.retire) (slots_of x v)

-- number 5 for a volume that has to be enrolled: "above 7, .. or not enrolled"
unfoldable pub no_volume : Book → ℕ → Bool
no_volume x v = ltb 7 v || not (enrolled x v)

-- "5 also covers a retired volume for enrol, backup and retire"; an enrolled one is 5 for enrol as it is
unfoldable pub no_living : Book → ℕ → Bool
no_living x v = no_volume x v || is_retired x v
