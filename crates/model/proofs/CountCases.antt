-- Numbers 13 and 14 of a change. No list of calls comes to either, so that no claim about lists says what they are. Here, and not in
-- `cases`, so that a wrong definition is refused by what it gives.
use Prim.Native.Nat.{ℕ}
use mathlib.Core.Path.{◌≡◌, refl}
use mathlib.Core.Bool.{true, false}
use mathlib.Core.List.{List, [], ◌∷◌, ◌++◌, map}
use lib.ListN.{get_or, replicate}
use Rattle.words.specs.Blocks.{block_size, print_size, unmapped}
use Rattle.words.specs.Lists.{up_from}
use Rattle.words.specs.Numbers.{two}
use Rattle.runs.specs.Changes
use Rattle.book.specs.Book.{Sizes, Entry, Book, free_entry, entry_at}
use Rattle.book.specs.Next.{new_sizes, with_day, with_entries, with_maps, with_record, with_slot, count_as, expiry_as}
use Rattle.model.specs.Days.{bad_day, not_after}
use Rattle.model.specs.Journal.{journal, slots_of, backup_count, days, is_retired, no_volume, no_living}
use Rattle.model.specs.Backup
use Rattle.model.specs.Backup.{lowered, lower, move_number}
use Rattle.model.specs.OnBytes.{number_of, after}
use Rattle.model.specs.Plain.{held, image, Plain}
use Rattle.model.specs.PlainBackup

abbrev pub counted : ℕ → Entry
counted k = record { count = k; held = true; expiry = 0; print = replicate print_size 0 }

-- ---- damaged books

-- where block 0 has these counts and block 1 is in one cell: a cell goes from the before to block 0
unfoldable pub numbers : ℕ → List ℕ → List ℕ
numbers before counts = map (λ k. move_number 9 before 0 (counted k ∷ counted 1 ∷ [])) counts

pub record Counted : Type 0 where
  -- a cell with no before, and one that named block 1
  pub unmapped-cell : numbers unmapped (0 ∷ 255 ∷ 65534 ∷ 65535 ∷ []) ≡ 0 ∷ 0 ∷ 0 ∷ 14 ∷ []
  pub other-cell : numbers 1 (0 ∷ 255 ∷ 65534 ∷ 65535 ∷ []) ≡ 0 ∷ 0 ∷ 0 ∷ 14 ∷ []
  -- a cell that named block 0 already: its count falls before it rises
  pub same-cell : numbers 0 (0 ∷ 1 ∷ 255 ∷ 65535 ∷ []) ≡ 13 ∷ 0 ∷ 0 ∷ 0 ∷ []

pub counts-tried : Counted
unfolding numbers move_number lower lowered count_as expiry_as free_entry
counts-tried = record { unmapped-cell = refl; other-cell = refl; same-cell = refl }

-- ---- "Eight maps of 1,024 cells" (document 02, K3): all cells but the last name block 0, and then that one does

abbrev pub largest : Sizes
largest = new_sizes 1 1024 9 1

abbrev pub blank : List ℕ
blank = replicate block_size 0

unfoldable pub maps : List (List ℕ)
maps = replicate 7 (replicate 1024 0) ++ ((replicate 1023 0 ++ (unmapped ∷ [])) ∷ [])

unfoldable pub book : Book
book = record {
  sizes = largest;
  day = 0;
  cursor = 0;
  retentions = replicate 8 9;
  entries = counted 8191 ∷ [];
  maps = maps;
  slots = map (λ v. record { volume = v; retire = false; day = 0; first = 0; number = 0 }) (up_from 0 8);
  records = [];
}

unfoldable pub store : Plain
store = record {
  sizes = largest;
  day = 0;
  cursor = 0;
  blocks = held (replicate print_size 0) blank ∷ [];
  retentions = replicate 8 9;
  taken = map (λ v. record { volume = v; day = 0; what = image (get_or maps v []); changes = 0 }) (up_from 0 8);
}

unfoldable pub last : List ℕ
last = two 1 ++ (two 1023 ++ (two 1 ++ (replicate print_size 0 ++ blank)))

pub record Filled : Type 0 where
  pub ours : number_of (Backup.backup book blank 7 1 last) ≡ 0
  pub count : after (λ (d : Backup.Backed). (entry_at d.book.entries 0).count) (Backup.backup book blank 7 1 last) 0 ≡ 8192
  pub plain : number_of (PlainBackup.backup store 7 1 last) ≡ 0

pub all-filled : Filled
unfolding
    maps book store last free_entry count_as expiry_as with_day with_entries with_maps with_record with_slot
    Changes.pair_count Changes.pair_at Changes.pairs Changes.change_count Changes.lbns Changes.prints_from Changes.blocks_from Changes.list_size
    Changes.change_at Changes.changes Changes.list_number
    bad_day not_after journal slots_of backup_count days is_retired no_volume no_living
    Backup.backup_number Backup.find_held Backup.place_held Backup.place lowered lower Backup.raised Backup.name_block move_number Backup.moved
    Backup.move_to Backup.change_step Backup.begun Backup.closed Backup.backup
    PlainBackup.backup_number PlainBackup.find_held PlainBackup.place_held PlainBackup.place
    PlainBackup.moved PlainBackup.change_step PlainBackup.begun PlainBackup.backup
all-filled = record { ours = refl; count = refl; plain = refl }
