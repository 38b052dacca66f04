-- The used slots in one pass: what is tested of each, and of what is left.
use Rattle.std.specs.Prelude.{ℕ, ◌+◌, ◌*◌, ◌≤◌, ◌≡◌, Bool, ◌&&◌, List, leb, eqb, length, get_or, drop}
use Rattle.words.specs.Lists.{each}
use Rattle.words.specs.Lists.{all}
use Rattle.words.specs.Numbers.{num}
use Rattle.book.specs.Layout.{b_offset, u_offset, day_offset, slots_from, slot_size, sizes_of, slot_of, book_of}
use Rattle.book.specs.Form.{second_ok, slot_ok, pairs_ok}
use Rattle.slots.specs.Days.{day_ok, days_from}

-- the slot at an offset, after those passed: its second byte, its volume and day, its day after theirs, its first
-- record
unfoldable pub slot_here : List ℕ → ℕ → List ℕ → List Bool → ℕ → ℕ → Bool
slot_here b at lasts gone prev next =
    leb (get_or b (at + 1) 0) 1
    && slot_ok (book_of b) (slot_of b at)
    && day_ok lasts gone prev (slot_of b at)
    && eqb (slot_of b at).first next

-- the used slots from q on, after those passed
unfoldable pub slots_left : List ℕ → ℕ → List ℕ → List Bool → ℕ → ℕ → Bool
slots_left b q lasts gone prev next =
    each (second_ok b) q (num b b_offset)
    && all (slot_ok (book_of b)) (drop q (book_of b).slots)
    && days_from lasts gone prev (drop q (book_of b).slots)
    && pairs_ok next (drop q (book_of b).slots) (num b u_offset)

-- the numbers that the pass over the slots is handed: the layout, where they start, how many are used, the records used,
-- the header's day
pub record SlotsAt (b : List ℕ) (layout from used end today : ℕ) : Type 0 where
  pub kind : layout ≡ num b 0
  pub start : from ≡ slots_from (sizes_of b)
  pub slots : used ≡ num b b_offset
  pub records : end ≡ num b u_offset
  pub day : today ≡ num b day_offset
  pub few : used ≤ 1024
  pub low : today ≤ 60000
  pub inside : from + used * slot_size ≤ length b
