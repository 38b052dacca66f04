-- Retire (document 02, K6), worked out on a book of a few blocks: its numbers, what it leaves, and what the volume's backups read after it. Here,
-- and not in `cases`, so that a wrong definition is refused by what it gives.
use Prim.Native.Nat.{ℕ}
use mathlib.Core.Path.{◌≡◌, refl}
use mathlib.Core.Bool.{true, false}
use mathlib.Core.List.{List, [], ◌∷◌, map}
use lib.ListN.{get_or, drop, replicate}
use Rattle.words.specs.Blocks.{unmapped}
use Rattle.book.specs.Book.{Entry, Book, free_entry}
use Rattle.book.specs.Next.{new_sizes, with_day, with_entries, with_maps, with_record, with_slot, count_as, expiry_as}
use Rattle.model.specs.Days.{kept, bad_day, not_after}
use Rattle.model.specs.Journal.{journal, slots_of, backup_count, days, is_retired, no_volume, no_living}
use Rattle.model.specs.Backup.{lowered, lower, backup_number}
use Rattle.model.specs.Retire.{Retired, mapped_cells, retire_number, clear_number, cleared, clear_cell, retired, retire}
use Rattle.model.specs.Read.{image, read_number}
use Rattle.model.specs.OnBytes.{number_of, after}
use Rattle.model.proofs.CaseBlocks.{hold}

-- volume 0 keeps 10 days and has backups on 5 and 8: block 0 at LBN 0, where block 2 was before, and block 1 at LBN 1 and 3. Volume 1 is enrolled
-- and has none. With s slots and j records, and this count of block 1
unfoldable pub book_with : ℕ → ℕ → ℕ → Book
book_with s j count = record {
  sizes = new_sizes 3 4 s j;
  day = 8;
  cursor = 0;
  retentions = 10 ∷ 3 ∷ replicate 6 0;
  entries = hold 1 0 7 ∷ hold count 0 8 ∷ hold 0 15 9 ∷ [];
  maps = (0 ∷ 1 ∷ unmapped ∷ 1 ∷ []) ∷ replicate 7 (replicate 4 unmapped);
  slots =
      record { volume = 0; retire = false; day = 5; first = 0; number = 3 }
      ∷ record { volume = 0; retire = false; day = 8; first = 3; number = 1 }
      ∷ [];
  records =
      record { lbn = 0; before = unmapped; after = 2 }
      ∷ record { lbn = 1; before = unmapped; after = 1 }
      ∷ record { lbn = 3; before = unmapped; after = 1 }
      ∷ record { lbn = 0; before = 2; after = 0 }
      ∷ [];
}

abbrev book : Book
book = book_with 4 8 2

-- the book after volume v's retirement on day t
abbrev gone : ℕ → ℕ → Book
gone v t = after (λ (d : Retired). d.book) (retire book v t) book

-- ---- the numbers

pub record Numbers : Type 0 where
  -- 5: "above 7 .. or not enrolled", and "a retired volume for .. backup and retire"
  pub unknown : map (λ v. number_of (retire book v 20)) (0 ∷ 1 ∷ 2 ∷ 8 ∷ []) ≡ 0 ∷ 0 ∷ 5 ∷ 5 ∷ []
  pub again : map (λ v. number_of (retire (gone 0 20) v 21)) (0 ∷ 1 ∷ []) ≡ 5 ∷ 0 ∷ []
  pub backup : backup_number (gone 0 20) 0 21 [] ≡ 5
  -- 7, also "for backup not above the volume's last backup": volume 0 not on day 8, volume 1 on the header's day
  pub day : map (λ t. number_of (retire book 0 t)) (7 ∷ 8 ∷ 9 ∷ 60000 ∷ 60001 ∷ []) ≡ 7 ∷ 7 ∷ 0 ∷ 0 ∷ 7 ∷ []
  pub first : map (λ t. number_of (retire book 1 t)) (7 ∷ 8 ∷ []) ≡ 7 ∷ 0 ∷ []
  -- 9 and 10: "it takes a backup slot", and a record "for each mapped cell"
  pub slots : map (λ s. number_of (retire (book_with s 8 2) 0 20)) (2 ∷ 3 ∷ []) ≡ 9 ∷ 0 ∷ []
  pub records : map (λ j. number_of (retire (book_with 4 j 2) 0 20)) (4 ∷ 6 ∷ 7 ∷ []) ≡ 10 ∷ 10 ∷ 0 ∷ []
  -- 13: two cells name block 1, so that a count of 1 is 0 at the second
  pub counts : map (λ c. number_of (retire (book_with 4 8 c) 0 20)) (0 ∷ 1 ∷ 2 ∷ []) ≡ 13 ∷ 13 ∷ 0 ∷ []

pub numbers-tried : Numbers
unfolding
    book_with journal slots_of days is_retired no_volume no_living bad_day not_after free_entry with_day with_entries with_maps with_record with_slot
    count_as expiry_as lowered lower backup_number mapped_cells retire_number clear_number cleared clear_cell retired retire
numbers-tried = record {
  unknown = refl;
  again = refl;
  backup = refl;
  day = refl;
  first = refl;
  slots = refl;
  records = refl;
  counts = refl;
}

-- ---- what it leaves

pub record Left : Type 0 where
  -- "the answer is the number of cells"
  pub cells : map (λ v. after (λ (d : Retired). d.cells) (retire book v 20) 99) (0 ∷ 1 ∷ []) ≡ 3 ∷ 0 ∷ []
  -- "Counts and expiries move as in step 3": from the day of the volume's last backup, 8, and not from 20
  pub counts : map (λ (e : Entry). e.count) (gone 0 20).entries ≡ 0 ∷ 0 ∷ 0 ∷ []
  pub expiries : map (λ (e : Entry). e.expiry) (gone 0 20).entries ≡ 18 ∷ 18 ∷ 15 ∷ []
  pub map : get_or (gone 0 20).maps 0 [] ≡ unmapped ∷ unmapped ∷ unmapped ∷ unmapped ∷ []
  -- "a backup slot whose second byte is 1, and a record with after 65,535 for each mapped cell, by LBN"
  pub slot : drop 2 (gone 0 20).slots ≡ record { volume = 0; retire = true; day = 20; first = 4; number = 3 } ∷ []
  pub records : drop 4 (gone 0 20).records
      ≡ record { lbn = 0; before = 0; after = 65535 }
      ∷ record { lbn = 1; before = 1; after = 65535 }
      ∷ record { lbn = 3; before = 1; after = 65535 }
      ∷ []
  pub day : (gone 0 20).day ≡ 20
  -- a volume without backups takes a slot and no record
  pub none : drop 2 (gone 1 20).slots ≡ record { volume = 1; retire = true; day = 20; first = 4; number = 0 } ∷ []
  pub nothing : drop 4 (gone 1 20).records ≡ []

pub left-tried : Left
unfolding
    book_with journal slots_of days is_retired no_volume no_living bad_day not_after free_entry with_day with_entries with_maps with_record with_slot
    count_as expiry_as lowered lower mapped_cells retire_number clear_number cleared clear_cell retired retire
left-tried = record {
  cells = refl;
  counts = refl;
  expiries = refl;
  map = refl;
  slot = refl;
  records = refl;
  day = refl;
  none = refl;
  nothing = refl;
}

-- ---- its backups after it

-- numbers of the read of LBN 0, for backups 0 to 3
abbrev reads_of : Book → List ℕ
reads_of x = map (λ k. read_number x 0 k 0) (0 ∷ 1 ∷ 2 ∷ 3 ∷ [])

abbrev image_of : Book → ℕ → List ℕ
image_of x k = map (image x 0 k) (0 ∷ 1 ∷ 2 ∷ 3 ∷ [])

pub record Read : Type 0 where
  -- "The retire slot is no backup and has no number": 15 behind the second, as before
  pub before : reads_of book ≡ 15 ∷ 0 ∷ 0 ∷ 15 ∷ []
  -- "Its old backups stay readable until their days run out": 15 and 18
  pub kept : map (λ t. reads_of (gone 0 t)) (15 ∷ 16 ∷ 18 ∷ [])
      ≡ (15 ∷ 0 ∷ 0 ∷ 15 ∷ []) ∷ (15 ∷ 16 ∷ 0 ∷ 15 ∷ []) ∷ (15 ∷ 16 ∷ 0 ∷ 15 ∷ []) ∷ []
  -- "and the newest is no longer exempt": on day 19 it was readable, and isn't once the volume is retired
  pub exempt : reads_of (with_day 19 book) ≡ 15 ∷ 16 ∷ 0 ∷ 15 ∷ []
  pub over : reads_of (gone 0 19) ≡ 15 ∷ 16 ∷ 16 ∷ 15 ∷ []
  -- "a read looks through its records too"
  pub images : map (image_of (gone 0 15)) (1 ∷ 2 ∷ []) ≡ map (image_of book) (1 ∷ 2 ∷ [])
  pub first : image_of (gone 0 15) 1 ≡ 2 ∷ 1 ∷ unmapped ∷ 1 ∷ []
  pub newest : image_of (gone 0 15) 2 ≡ 0 ∷ 1 ∷ unmapped ∷ 1 ∷ []

pub read-tried : Read
unfolding
    book_with journal slots_of backup_count days is_retired no_volume no_living bad_day not_after kept free_entry with_day with_entries with_maps
    with_record with_slot count_as expiry_as lowered lower mapped_cells retire_number clear_number cleared clear_cell retired retire image read_number
read-tried = record {
  before = refl;
  kept = refl;
  exempt = refl;
  over = refl;
  images = refl;
  first = refl;
  newest = refl;
}
