-- The used records in one pass, slot by slot: what is tested of each, and of what is left.
use Rattle.std.specs.Prelude.{ℕ, ◌+◌, ◌*◌, ◌≤◌, ◌≡◌, Bool, true, ◌&&◌, List, [], ◌∷◌, ltb, eqb, length, take, drop}
use Rattle.words.specs.Blocks.{unmapped}
use Rattle.words.specs.Choice.{when◌then◌else◌}
use Rattle.words.specs.Lists.{each}
use Rattle.words.specs.Lists.{all}
use Rattle.words.specs.Numbers.{num}
use Rattle.book.specs.Book.{Sizes, Slot, Rec}
use Rattle.book.specs.Layout.{n_offset, l_offset, b_offset, u_offset, slots_from, records_from, slot_size, rec_size, sizes_of, rec_of, book_of}
use Rattle.book.specs.Form.{rec_ok, after_ok, pairs_ok}

-- both rules of an after in one: unmapped in a retire slot, and below N in any other
unfoldable pub after_in : Bool → ℕ → ℕ → Bool
after_in retire n p = when retire then eqb p unmapped else ltb p n

-- a record of a slot that retires its volume, or of one that doesn't
unfoldable pub rec_here : Sizes → Bool → Rec → Bool
rec_here z retire r = rec_ok z r && after_ok retire r

-- a slot's records, which start at an offset
unfoldable pub records_at : List ℕ → Bool → ℕ → ℕ → Bool
records_at b retire from number = each (λ k. rec_here (sizes_of b) retire (rec_of b (from + k * rec_size))) 0 number

-- each slot's records, in order
abbrev pub records_by : Sizes → List Slot → List Rec → Bool
records_by z [] rs = true
records_by z (t ∷ ts) rs = all (rec_here z t.retire) (take t.number rs) && records_by z ts (drop t.number rs)

-- those of the used slots from q on, which start at record next
unfoldable pub records_left : List ℕ → ℕ → ℕ → Bool
records_left b q next = records_by (sizes_of b) (drop q (book_of b).slots) (drop next (book_of b).records)

-- the numbers that the pass over the records is handed: where the slots start, how many are used, where the records
-- start, N and L. The slots were found in form before
pub record RecordsIn (b : List ℕ) (slots used from n l : ℕ) : Type 0 where
  pub start : slots ≡ slots_from (sizes_of b)
  pub count : used ≡ num b b_offset
  pub first : from ≡ records_from (sizes_of b)
  pub blocks : n ≡ num b n_offset
  pub cells : l ≡ num b l_offset
  pub pairs : pairs_ok 0 (book_of b).slots (num b u_offset) ≡ true
  pub before : slots + used * slot_size ≤ length b
  pub inside : from + num b u_offset * rec_size ≤ length b
