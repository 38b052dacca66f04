-- The sections' tests, together, are number 2's.
use Rattle.std.specs.Prelude.{ℕ, ◌*◌, Bool, ◌&&◌, List}
use Rattle.words.specs.Numbers.{num}
use Rattle.book.specs.Book.{volumes}
use Rattle.book.specs.Layout.{n_offset, l_offset, b_offset, u_offset, maps_from, slot_offset, records_from, rec_offset, book_size}
use Rattle.book.specs.Layout.{sizes_of}
use Rattle.slots.specs.Days.{no_lasts, none_gone}
use Rattle.slots.specs.Slots.{slots_left}
use Rattle.slots.specs.Records.{records_left}
use Rattle.sections.specs.Checks.{zeros_in, retentions_ok, entries_ok, maps_ok}

-- after the header: retentions, entries and maps; slots; records
unfoldable pub blocks_ok : List ℕ → Bool
blocks_ok b =
    retentions_ok b
    && entries_ok (num b 0) b (num b n_offset)
    && maps_ok b (maps_from (sizes_of b)) (volumes * num b l_offset) (num b n_offset)

unfoldable pub slots_ok : List ℕ → Bool
slots_ok b = slots_left b 0 no_lasts none_gone 0 0 && zeros_in b (slot_offset (sizes_of b) (num b b_offset)) (records_from (sizes_of b))

unfoldable pub journal_ok : List ℕ → Bool
journal_ok b = records_left b 0 0 && zeros_in b (rec_offset (sizes_of b) (num b u_offset)) (book_size (sizes_of b))
