-- The shape that bytes of a book have, before anything is asked of what they say (document 01, "A book is in form when").
use mathlib.Core.Path.{◌≡◌}
use mathlib.Core.List.{List}
use Prim.Native.Nat.{ℕ, ◌+◌, ◌≤◌, ◌<◌}
use lib.ListN.{length, get_or}
use Rattle.words.specs.Numbers.{num}
use Rattle.book.specs.Layout.{count_size, n_offset, s_offset, j_offset, b_offset, u_offset, zero_offset, entry_offset, records_from}
use Rattle.book.specs.Layout.{slot_offset, rec_offset, book_size, sizes_of}

pub record Outline (b : List ℕ) : Type 0 where
  pub len : length b ≡ book_size (sizes_of b)
  -- "the spare header field" is zero
  pub spare : num b zero_offset ≡ 0
  -- "B ≤ S, U ≤ J"
  pub slots : num b b_offset ≤ num b s_offset
  pub records : num b u_offset ≤ num b j_offset
  -- "states are 0 or 1"
  pub states : (p : ℕ) → p < num b n_offset → get_or b (entry_offset (num b 0) p + count_size (num b 0)) 0 ≤ 1
  -- a slot's second byte is zero, in a retire slot 1
  pub seconds : (q : ℕ) → q < num b b_offset → get_or b (slot_offset (sizes_of b) q + 1) 0 ≤ 1
  -- "unused slots and records" are zero: each byte from the first unused one to the section's end
  pub free_slots : (i : ℕ) → slot_offset (sizes_of b) (num b b_offset) ≤ i → i < records_from (sizes_of b) → get_or b i 0 ≡ 0
  pub free_records : (i : ℕ) → rec_offset (sizes_of b) (num b u_offset) ≤ i → i < book_size (sizes_of b) → get_or b i 0 ≡ 0
