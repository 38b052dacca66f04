-- What a host is shown of a book, beside the calls of document 01: its sizes, how much of it is used, a volume, its backups, its map, and
-- the blocks. A host that goes by these knows no place in the book.
use Rattle.std.specs.Prelude.{ℕ, ◌+◌, List, [], ◌∷◌, ◌++◌, map, length, get_or, drop, ltb, eqb}
use Rattle.words.specs.Choice.{when◌then◌else◌}
use Rattle.words.specs.Lists.{bit}
use Rattle.words.specs.Numbers.{two}
use Rattle.words.specs.Outcome.{Outcome, accepted, unless}
use Rattle.words.specs.Sections.{flat}
use Rattle.book.specs.Book.{Sizes, Entry, Book, retention_of}
use Rattle.book.specs.Layout.{book_of}
use Rattle.book.specs.Form.{form_number}
use Rattle.model.specs.Days.{kept_by}
use Rattle.model.specs.Journal.{Backup, slots_of, backup_count, no_volume}
use Rattle.model.specs.OnBytes.{after}

-- ---- their numbers

-- 1, 2, then 5: "The volume is above 7, .. or not enrolled"
unfoldable pub enrolled_number : List ℕ → ℕ → ℕ
enrolled_number b v = when eqb (form_number b) 0 then (when no_volume (book_of b) v then 5 else 0) else form_number b

-- 20: the output is shorter than what is to be written
unfoldable pub output_number : List ℕ → ℕ → ℕ
output_number c room = when ltb room (length c) then 20 else 0

-- ---- what is shown of a book

-- slots and records used, and the header's day
pub record Used : Type 0 where
  pub slots : ℕ
  pub records : ℕ
  pub day : ℕ

unfoldable pub used_of : Book → Used
used_of x = record { slots = length x.slots; records = length x.records; day = x.day }

-- the day on which a volume was retired. No day is 65,535, which stands for none
abbrev pub retired_on : List Backup → ℕ
retired_on [] = 65535
retired_on (b ∷ bs) = when b.retire then b.day else retired_on bs

-- a volume's retention, how many backups it has, and the day on which it was retired
pub record VolumeFacts : Type 0 where
  pub retention : ℕ
  pub backups : ℕ
  pub retired : ℕ

unfoldable pub volume_of : Book → ℕ → VolumeFacts
volume_of x v = record { retention = retention_of x v; backups = backup_count x v; retired = retired_on (slots_of x v) }

-- the last day on which a backup is kept, by its own day and those of the volume's slots after it. The newest of a volume that isn't retired is always
-- kept: no day is above 65,535
abbrev pub kept_until : ℕ → List ℕ → ℕ → ℕ
kept_until t [] r = 65535
kept_until t (u ∷ us) r = t + r

-- a backup in 8 bytes: its day, how many records it has, until when it is kept, and 1 if it is kept on day d, else 0
abbrev pub backup_row : Backup → List ℕ → ℕ → ℕ → List ℕ
backup_row b later r d =
    flat two (b.day ∷ length b.records ∷ kept_until b.day later r ∷ bit (kept_by b.day later r d) ∷ [])

-- of a volume's slots: a retire slot has no row
abbrev pub backup_rows : ℕ → ℕ → List Backup → List ℕ
backup_rows r d [] = []
backup_rows r d (b ∷ bs) = (when b.retire then [] else backup_row b (map (λ (b : Backup). b.day) bs) r d) ++ backup_rows r d bs

-- the volume's backups by their numbers
unfoldable pub backups_of : Book → ℕ → List ℕ
backups_of x v = backup_rows (retention_of x v) x.day (slots_of x v)

-- the volume's current map, a PBN for each LBN
unfoldable pub cells_of : Book → ℕ → List ℕ
cells_of x v = flat two (get_or x.maps v [])

-- a block in 22 bytes: 1 if it is held, else 0; count, expiry, fingerprint
abbrev pub block_row : Entry → List ℕ
block_row e = flat two (bit e.held ∷ e.count ∷ e.expiry ∷ []) ++ e.print

unfoldable pub blocks_of : Book → List ℕ
blocks_of x = flat block_row x.entries

-- ---- on bytes

unfoldable pub sizes_bytes : List ℕ → Outcome Sizes
sizes_bytes b = unless (form_number b) (accepted (book_of b).sizes)

unfoldable pub used_bytes : List ℕ → Outcome Used
used_bytes b = unless (form_number b) (accepted (used_of (book_of b)))

unfoldable pub volume_bytes : List ℕ → ℕ → Outcome VolumeFacts
volume_bytes b v = unless (enrolled_number b v) (accepted (volume_of (book_of b) v))

-- what is to be written, where the output has room for it
unfoldable pub with_room : List ℕ → ℕ → Outcome (List ℕ)
with_room c room = unless (output_number c room) (accepted c)

-- book, volume, length of the output
unfoldable pub backups_bytes : List ℕ → ℕ → ℕ → Outcome (List ℕ)
backups_bytes b v room = unless (enrolled_number b v) (with_room (backups_of (book_of b) v) room)

unfoldable pub cells_bytes : List ℕ → ℕ → ℕ → Outcome (List ℕ)
cells_bytes b v room = unless (enrolled_number b v) (with_room (cells_of (book_of b) v) room)

unfoldable pub blocks_bytes : List ℕ → ℕ → Outcome (List ℕ)
blocks_bytes b room = unless (form_number b) (with_room (blocks_of (book_of b)) room)

-- "an output buffer past what is written is unchanged", and all of it on a refusal
abbrev pub output_after : Outcome (List ℕ) → List ℕ → List ℕ
output_after o out = after (λ c. c ++ drop (length c) out) o out
