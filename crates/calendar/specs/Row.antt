-- The row of a slot, by the volume's slot that came after it.
use Rattle.std.specs.Prelude.{ℕ, ◌+◌, List, [], ◌∷◌, ltb, length}
use Rattle.words.specs.Choice.{when◌then◌else◌}
use Rattle.words.specs.Lists.{bit}
use Rattle.words.specs.Numbers.{two}
use Rattle.words.specs.Sections.{flat}
use Rattle.book.specs.Book.{Book, slot_at}
use Rattle.keeping.specs.After.{kept_from}

abbrev pub row_size : ℕ
row_size = 8

-- the last day on which a backup is kept that was taken on day t, where slot `at` is the volume's next
unfoldable pub until_from : Book → ℕ → ℕ → ℕ → ℕ
until_from x t at r = when ltb at (length x.slots) then t + r else 65535

-- the row of the backup in slot q, where slot `next` is the volume's next
abbrev pub backup_from : Book → ℕ → ℕ → ℕ → List ℕ
backup_from x q next r =
    let t = (slot_at x.slots q).day in
    flat two (t ∷ (slot_at x.slots q).number ∷ until_from x t next r ∷ bit (kept_from x t next r) ∷ [])

-- the row of slot q: a retire slot has none
abbrev pub row_from : Book → ℕ → ℕ → ℕ → List ℕ
row_from x q next r = when (slot_at x.slots q).retire then [] else backup_from x q next r
