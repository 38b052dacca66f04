-- What days decide, worked out: which backups are kept, until when they are shown to be, and which days the expiries count from (document 02,
-- K4). Here, and not in `cases`, so that a wrong definition is refused by what it gives.
use Prim.Native.Nat.{ℕ}
use mathlib.Core.Path.{◌≡◌, refl}
use mathlib.Core.Bool.{Bool, true, false}
use mathlib.Core.List.{List, [], ◌∷◌, ◌++◌, map}
use mathlib.Core.Option.{none, some}
use lib.ListN.{replicate}
use Rattle.words.specs.Blocks.{unmapped}
use Rattle.words.specs.Numbers.{two}
use Rattle.runs.specs.Changes
use Rattle.book.specs.Book.{Entry, Book, no_print, free_entry}
use Rattle.book.specs.Next.{new_sizes, with_day, with_entries, with_maps, with_record, with_slot, count_as, expiry_as}
use Rattle.model.specs.Days.{kept, bad_day, not_after}
use Rattle.model.specs.Journal.{journal, slots_of, backup_count, days, is_retired, no_volume, no_living}
use Rattle.model.specs.Audit.{until_in}
use Rattle.model.specs.Backup
use Rattle.model.specs.Backup.{until_next}
use Rattle.model.specs.OnBytes.{after}
use Rattle.model.specs.Plain
use Rattle.model.specs.Plain.{Taken, kept_names}
use Rattle.model.specs.Views.{kept_until}
use Rattle.model.proofs.CaseBlocks.{print, block, hold}

-- backups of days 5, 8 and 20, kept 10 days each: numbers 1 to 3
abbrev kept_on : ℕ → List Bool
kept_on d = map (kept (5 ∷ 8 ∷ 20 ∷ []) 10 d) (1 ∷ 2 ∷ 3 ∷ [])

-- the same in the plain store, each with a block of its own
abbrev image : ℕ → ℕ → Taken
image d p = record { volume = 0; day = d; what = Plain.image (p ∷ unmapped ∷ []); changes = 1 }

abbrev named_on : ℕ → List Bool
named_on d = map (λ p. kept_names p 10 d (image 5 0 ∷ image 8 1 ∷ image 20 2 ∷ [])) (0 ∷ 1 ∷ 2 ∷ [])

pub record Kept : Type 0 where
  pub on15 : kept_on 15 ≡ true ∷ true ∷ true ∷ []
  pub on16 : kept_on 16 ≡ false ∷ true ∷ true ∷ []
  pub on18 : kept_on 18 ≡ false ∷ true ∷ true ∷ []
  pub on19 : kept_on 19 ≡ false ∷ false ∷ true ∷ []
  -- the newest, however old
  pub on99 : kept_on 99 ≡ false ∷ false ∷ true ∷ []
  pub named : map named_on (15 ∷ 16 ∷ 19 ∷ 99 ∷ []) ≡ map kept_on (15 ∷ 16 ∷ 19 ∷ 99 ∷ [])
  pub until : kept_until 5 (8 ∷ 20 ∷ []) 10 ∷ kept_until 8 (20 ∷ []) 10 ∷ kept_until 20 [] 10 ∷ [] ≡ 15 ∷ 18 ∷ 65535 ∷ []

pub kept-tried : Kept
unfolding kept
kept-tried = record { on15 = refl; on16 = refl; on18 = refl; on19 = refl; on99 = refl; named = refl; until = refl }

-- ---- expiries: volume 0 keeps 10 days and has backups on 5, 8 and 20, volume 1 keeps 3 and has one on 9

unfoldable pub book : Book
book = record {
  sizes = new_sizes 4 4 6 8;
  day = 20;
  cursor = 0;
  retentions = 10 ∷ 3 ∷ replicate 6 0;
  entries = replicate 4 (record { count = 0; held = false; expiry = 0; print = no_print });
  maps = replicate 8 (replicate 4 unmapped);
  slots =
      record { volume = 0; retire = false; day = 5; first = 0; number = 1 }
      ∷ record { volume = 0; retire = false; day = 8; first = 1; number = 1 }
      ∷ record { volume = 1; retire = false; day = 9; first = 2; number = 1 }
      ∷ record { volume = 0; retire = false; day = 20; first = 3; number = 1 }
      ∷ [];
  -- block 0 is replaced in the second backup, block 1 in the third, block 2 in volume 1's only one, block 3 in the first
  records =
      record { lbn = 0; before = 3; after = 0 }
      ∷ record { lbn = 0; before = 0; after = 1 }
      ∷ record { lbn = 0; before = 2; after = 0 }
      ∷ record { lbn = 1; before = 1; after = 2 }
      ∷ [];
}

pub record Expiries : Type 0 where
  pub before : map (λ b. b.prev) (journal book) ≡ none ∷ some 5 ∷ none ∷ some 8 ∷ []
  -- "or 0 where a damaged book has none": blocks 2 and 3
  pub audited : map (λ p. until_in book p (journal book)) (0 ∷ 1 ∷ 2 ∷ 3 ∷ []) ≡ 15 ∷ 18 ∷ 3 ∷ 10 ∷ []
  -- what the next backup of volumes 0, 1 and 2 gives
  pub next : map (until_next book) (0 ∷ 1 ∷ 2 ∷ []) ≡ 30 ∷ 12 ∷ 0 ∷ []

pub expiries-tried : Expiries
unfolding journal slots_of days book
expiries-tried = record { before = refl; audited = refl; next = refl }

-- ---- step 3: volume 0 has block 0 since day 5, and on day 20 block 1 comes in its place

unfoldable pub held : Book
held = record {
  sizes = new_sizes 2 1 3 2;
  day = 5;
  cursor = 0;
  retentions = 10 ∷ replicate 7 0;
  entries = hold 1 0 0 ∷ hold 0 7 1 ∷ [];
  maps = (0 ∷ []) ∷ replicate 7 (unmapped ∷ []);
  slots = record { volume = 0; retire = false; day = 5; first = 0; number = 1 } ∷ [];
  records = record { lbn = 0; before = unmapped; after = 0 } ∷ [];
}

unfoldable pub sent : List ℕ
sent = two 1 ++ (two 0 ++ (two 1 ++ (print 1 ++ block 1)))

pub record Replaced : Type 0 where
  pub expiries : after (λ (d : Backup.Backed). map (λ (e : Entry). e.expiry) d.book.entries) (Backup.backup held (block 0 ++ block 1) 0 20 sent) []
      ≡ 15 ∷ 7 ∷ []

pub replaced_tried : Replaced
unfolding
    held sent journal slots_of backup_count days free_entry count_as expiry_as with_day with_entries with_maps with_record with_slot
    Changes.pair_count Changes.pair_at Changes.pairs Changes.change_count Changes.lbns Changes.prints_from Changes.blocks_from Changes.list_size
    Changes.change_at Changes.changes Changes.list_number
    bad_day not_after is_retired no_volume no_living
    Backup.backup_number Backup.find_held Backup.place_held Backup.place Backup.lowered Backup.lower Backup.raised Backup.name_block
    Backup.move_number Backup.moved Backup.move_to Backup.change_step Backup.begun Backup.closed Backup.backup
replaced_tried = record { expiries = refl }
