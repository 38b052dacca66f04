-- The steps of a change (document 01, "Backup"), worked out on books of a few blocks, and what a refused list leaves. Here, and not
-- in `cases`, so that a wrong definition is refused by what it gives.
use Prim.Native.Nat.{ℕ}
use mathlib.Core.Path.{◌≡◌, refl}
use mathlib.Core.Bool.{false}
use mathlib.Core.List.{List, [], ◌∷◌, ◌++◌, map}
use mathlib.Core.Option.{none, some}
use lib.ListN.{get_or, replicate}
use Rattle.words.specs.Blocks.{unmapped}
use Rattle.words.specs.Numbers.{two}
use Rattle.runs.specs.Changes
use Rattle.runs.specs.Changes.{Change}
use Rattle.book.specs.Book.{Entry, Book, no_print, free_entry, no_slot, no_rec}
use Rattle.book.specs.Form.{between, sizes_as, layout_as, retention_ok, entry_ok, pbn_ok, rec_ok, after_ok, slot_ok, later_ok, book_ok}
use Rattle.book.specs.Form.{state_ok, second_ok, raw_ok, form_as}
use Rattle.book.specs.Layout.{entry_size, bytes, book_of}
use Rattle.book.specs.Next.{new_sizes, with_cursor, with_entries, with_maps, with_record, count_as, expiry_as, held_as}
use Rattle.model.specs.Days.{bad_day, not_after}
use Rattle.model.specs.Journal.{journal, slots_of, backup_count, days, is_retired, no_volume, no_living}
use Rattle.model.specs.Backup
use Rattle.model.specs.Backup.{Work, Placed, find_held, find_free, place, lowered, run_changes, begun}
use Rattle.model.specs.OnBytes.{number_of, after, pool_number, spare_number, backup_bytes}
use Rattle.model.specs.Calls.{backup, number}
use Rattle.model.specs.Sides.{Ours, step_of, ours}
use Rattle.model.proofs.CaseBlocks.{print, block, hold}

abbrev change : ℕ → ℕ → Change
change l a = record { lbn = l; print = print a; block = block a }

-- ---- steps 1 and 2: which block is found

pub record Found : Type 0 where
  -- "the lowest-numbered held block with this fingerprint"
  pub lowest : map (find_held (hold 1 0 8 ∷ hold 1 0 7 ∷ hold 0 0 7 ∷ [])) (print 7 ∷ print 8 ∷ print 9 ∷ [])
      ≡ some 1 ∷ some 0 ∷ none ∷ []
  -- a free block has "a zero fingerprint", and "a held one may have a zero fingerprint too"
  pub held : map (λ e. find_held (free_entry ∷ e ∷ []) (print 0)) (hold 0 0 0 ∷ free_entry ∷ []) ≡ some 1 ∷ none ∷ []
  -- "the first free block from the cursor up, going round after N − 1"
  pub next : map (find_free (free_entry ∷ hold 1 0 7 ∷ free_entry ∷ hold 1 0 8 ∷ [])) (0 ∷ 1 ∷ 2 ∷ 3 ∷ [])
      ≡ some 0 ∷ some 2 ∷ some 2 ∷ some 0 ∷ []
  pub full : find_free (hold 1 0 7 ∷ hold 0 0 8 ∷ []) 1 ≡ none

pub found-tried : Found
unfolding find_held find_free free_entry no_print
found-tried = record { lowest = refl; held = refl; next = refl; full = refl }

-- ---- steps 1 and 2: what becomes of it. Block 1 is at LBN 0 of volume 0; blocks 0 and 2 are free, with any bytes in the pool

unfoldable pub book : Book
book = record {
  sizes = new_sizes 3 2 2 4;
  day = 5;
  cursor = 0;
  retentions = 10 ∷ replicate 7 0;
  entries = free_entry ∷ hold 1 0 1 ∷ free_entry ∷ [];
  maps = (1 ∷ unmapped ∷ []) ∷ replicate 7 (unmapped ∷ unmapped ∷ []);
  slots = record { volume = 0; retire = false; day = 5; first = 0; number = 1 } ∷ [];
  records = record { lbn = 0; before = unmapped; after = 1 } ∷ [];
}

-- with the cursor at c
unfoldable pub work : ℕ → Work
work c = begun (with_cursor c book) (block 9 ++ (block 1 ++ block 8))

-- the block of a change, and after it the cursor and how many are taken
abbrev seen : Placed → List ℕ
seen d = d.pbn ∷ d.work.book.cursor ∷ d.work.taken ∷ []

-- the first and the last byte of block 0 after it, and the first of block 1
abbrev ends : Placed → List ℕ
ends d = map (λ i. get_or d.work.pool i 0) (0 ∷ 511 ∷ 512 ∷ [])

pub record Stored : Type 0 where
  -- "cursor becomes that number + 1 modulo N"
  pub taken : map (λ c. after seen (place (change 1 5) (work c)) []) (0 ∷ 1 ∷ []) ≡ (0 ∷ 1 ∷ 1 ∷ []) ∷ (2 ∷ 0 ∷ 1 ∷ []) ∷ []
  pub found : after seen (place (change 1 1) (work 2)) [] ≡ 1 ∷ 2 ∷ 0 ∷ []
  -- "its pool bytes are the change's", of a taken block; a found one has them already
  pub pool : map (λ a. after ends (place (change 1 a) (work 0)) []) (5 ∷ 1 ∷ []) ≡ (5 ∷ 5 ∷ 1 ∷ []) ∷ (9 ∷ 9 ∷ 1 ∷ []) ∷ []
  -- 11: "the found block has other bytes"
  pub other : number_of (place (record { lbn = 1; print = print 1; block = block 5 }) (work 0)) ≡ 11

pub stored-tried : Stored
unfolding
    book work begun free_entry no_print with_cursor with_entries held_as find_held find_free place Backup.take_block Backup.place_free
    Backup.place_held
stored-tried = record { taken = refl; found = refl; pool = refl; other = refl }

-- ---- steps 3 and 4

pub record Moved : Type 0 where
  -- "its expiry becomes the larger of itself and T + R": in case d 15, and not 6 + 3 (document 02, K4)
  pub larger : map (λ u. (lowered u (hold 1 15 1)).expiry) (9 ∷ 15 ∷ 16 ∷ []) ≡ 15 ∷ 15 ∷ 16 ∷ []
  -- touched: "n plus the changes that had a before"
  pub touched : map (λ cs. after (λ w. w.touched) (run_changes 0 15 cs (work 0)) 99)
      ([] ∷ (change 1 1 ∷ []) ∷ (change 0 1 ∷ []) ∷ (change 0 5 ∷ change 1 1 ∷ []) ∷ [])
      ≡ 0 ∷ 1 ∷ 2 ∷ 3 ∷ []

pub moved_tried : Moved
unfolding
    book work begun free_entry no_print with_cursor with_entries with_maps with_record count_as expiry_as held_as find_held find_free place
    lowered Backup.take_block Backup.place_free Backup.place_held Backup.lower Backup.raised Backup.name_block Backup.move_number
    Backup.moved Backup.move_to Backup.change_step
moved_tried = record { larger = refl; touched = refl }

-- ---- "A refusal gives its number only; nothing but the spare may change": a list of two blocks for a pool of one

unfoldable pub box : Ours
box = record {
  book = bytes (record {
    sizes = new_sizes 1 2 1 2;
    day = 0;
    cursor = 0;
    retentions = 10 ∷ replicate 7 0;
    entries = free_entry ∷ [];
    maps = replicate 8 (unmapped ∷ unmapped ∷ []);
    slots = [];
    records = [];
  });
  pool = block 9;
}

unfoldable pub sent : List ℕ
sent = two 1 ++ (two 0 ++ (two 2 ++ (print 1 ++ (print 2 ++ (block 1 ++ block 2)))))

pub record Refused : Type 0 where
  pub answer : (ours 109 box (backup 0 5 sent)).answer ≡ number 12
  pub left : map (λ (e : Entry). e.held) (book_of (ours 109 box (backup 0 5 sent)).next.book).entries ≡ false ∷ []
  pub nothing : (ours 109 box (backup 0 5 sent)).next ≡ box

pub refused-tried : Refused
unfolding
    box sent ours step_of backup_bytes pool_number spare_number no_print free_entry no_slot no_rec entry_size bytes book_of
    between sizes_as layout_as retention_ok entry_ok pbn_ok rec_ok after_ok slot_ok later_ok book_ok state_ok second_ok raw_ok form_as
    with_cursor with_entries with_maps with_record count_as expiry_as held_as
    Changes.pair_count Changes.pair_at Changes.pairs Changes.change_count Changes.lbns Changes.prints_from Changes.blocks_from
    Changes.list_size Changes.change_at Changes.changes Changes.list_number
    bad_day not_after journal slots_of backup_count days is_retired no_volume no_living
    find_held find_free place lowered begun Backup.backup_number Backup.take_block Backup.place_free Backup.place_held Backup.lower
    Backup.raised Backup.name_block Backup.move_number Backup.moved Backup.move_to Backup.change_step Backup.closed Backup.backup
refused-tried = record { answer = refl; left = refl; nothing = refl }
