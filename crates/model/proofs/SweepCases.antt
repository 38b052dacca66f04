-- Collect on our book and on the plain store, and audit of counts, worked out. Here, and not in `cases`, so that a wrong definition
-- is refused by what it gives.
use Prim.Native.Nat.{ℕ}
use mathlib.Core.Path.{◌≡◌, refl}
use mathlib.Core.Bool.{Bool, true, false}
use mathlib.Core.List.{List, [], ◌∷◌, map}
use lib.ListN.{replicate}
use Rattle.words.specs.Blocks.{unmapped}
use Rattle.book.specs.Book.{Entry, Book, no_print, free_entry}
use Rattle.book.specs.Next.{new_sizes, with_day, with_entries, made_free}
use Rattle.model.specs.Days.{kept, bad_day}
use Rattle.model.specs.Journal.{journal, slots_of, backup_count, days}
use Rattle.model.specs.Read.{image}
use Rattle.model.specs.Audit.{no_maps, maps_sound, count_sound, expiry_sound, prints_sound, cell_sound, current_sound, backup_sound}
use Rattle.model.specs.Audit.{backups_sound, audit}
use Rattle.model.specs.Collect.{Collected, collect_number, is_over, swept_entry, collected, collect}
use Rattle.model.specs.OnBytes.{after}
use Rattle.model.specs.Plain
use Rattle.model.specs.Plain.{Plain, taken_of, maps_of, PlainCollected, marked}
use Rattle.model.proofs.CaseBlocks.{print, block, hold}

-- ---- collect

-- on this day: blocks 0 and 1 wait until 4 and until 5, block 2 is in a map, block 3 is free
unfoldable pub waiting : ℕ → Book
waiting d = record {
  sizes = new_sizes 4 1 1 1;
  day = d;
  cursor = 0;
  retentions = [];
  entries = hold 0 4 1 ∷ hold 0 5 2 ∷ hold 1 0 3 ∷ free_entry ∷ [];
  maps = [];
  slots = [];
  records = [];
}

-- how many a collect on day t frees, the book after it, and which blocks are held there
abbrev freed_on : Book → ℕ → ℕ
freed_on x t = after (λ (c : Collected). c.freed) (collect x t) 99

abbrev swept_on : Book → ℕ → Book
swept_on x t = after (λ (c : Collected). c.book) (collect x t) x

abbrev held_in : Book → List Bool
held_in x = map (λ (e : Entry). e.held) x.entries

pub record Swept : Type 0 where
  -- "each held block with count 0 and expiry < T": none on its day
  pub freed : map (freed_on (waiting 0)) (4 ∷ 5 ∷ 6 ∷ []) ≡ 0 ∷ 1 ∷ 2 ∷ []
  pub held : map (λ t. held_in (swept_on (waiting 0) t)) (4 ∷ 5 ∷ 6 ∷ [])
      ≡ (true ∷ true ∷ true ∷ false ∷ []) ∷ (false ∷ true ∷ true ∷ false ∷ []) ∷ (false ∷ false ∷ true ∷ false ∷ []) ∷ []
  -- on any day of the book, and again after a collect
  pub later : map (freed_on (waiting 3)) (4 ∷ 5 ∷ 6 ∷ []) ≡ 0 ∷ 1 ∷ 2 ∷ []
  pub again : freed_on (swept_on (waiting 0) 5) 6 ≡ 1

pub swept-tried : Swept
unfolding waiting free_entry no_print bad_day collect_number is_over swept_entry collected collect with_day with_entries made_free
swept-tried = record { freed = refl; held = refl; later = refl; again = refl }

-- ---- collect on the plain store: "marks each block in a current or kept map and frees the other held ones"

-- a volume that keeps 10 days, with blocks 0, 1 and 2 in its backups of days 5, 8 and 9, and block 3 in none
unfoldable pub store : Plain
store = record {
  sizes = new_sizes 4 1 3 3;
  day = 9;
  cursor = 0;
  blocks = map (λ a. Plain.held (print a) (block a)) (0 ∷ 1 ∷ 2 ∷ 3 ∷ []);
  retentions = 10 ∷ replicate 7 0;
  taken =
      record { volume = 0; day = 5; what = Plain.image (0 ∷ []); changes = 1 }
      ∷ record { volume = 0; day = 8; what = Plain.image (1 ∷ []); changes = 1 }
      ∷ record { volume = 0; day = 9; what = Plain.image (2 ∷ []); changes = 1 }
      ∷ [];
}

pub record Marked : Type 0 where
  pub marks : map (λ d. map (marked store d) (0 ∷ 1 ∷ 2 ∷ 3 ∷ [])) (15 ∷ 16 ∷ 19 ∷ [])
      ≡ (true ∷ true ∷ true ∷ false ∷ []) ∷ (false ∷ true ∷ true ∷ false ∷ []) ∷ (false ∷ false ∷ true ∷ false ∷ []) ∷ []
  pub freed : map (λ d. after (λ (c : PlainCollected). c.freed) (Plain.collect store d) 99) (15 ∷ 16 ∷ 19 ∷ []) ≡ 1 ∷ 2 ∷ 3 ∷ []

pub marked-tried : Marked
unfolding store bad_day marked Plain.current_maps Plain.with_blocks Plain.at_day Plain.collect_number Plain.collected Plain.collect
marked-tried = record { marks = refl; freed = refl }

-- a volume that leaves on day 9 with blocks 0 and 1 in its backups of days 5 and 8, and one that stays with block 2 in its backup of day 6: "its
-- newest map stops being current and stays in the list", and "the newest is no longer exempt" (document 02, K6)
unfoldable pub leaving : Plain
leaving = record {
  sizes = new_sizes 4 1 4 4;
  day = 9;
  cursor = 0;
  blocks = map (λ a. Plain.held (print a) (block a)) (0 ∷ 1 ∷ 2 ∷ 3 ∷ []);
  retentions = 10 ∷ 2 ∷ replicate 6 0;
  taken =
      record { volume = 0; day = 5; what = Plain.image (0 ∷ []); changes = 1 }
      ∷ record { volume = 1; day = 6; what = Plain.image (2 ∷ []); changes = 1 }
      ∷ record { volume = 0; day = 8; what = Plain.image (1 ∷ []); changes = 1 }
      ∷ record { volume = 0; day = 9; what = Plain.retirement; changes = 1 }
      ∷ [];
}

pub record Left : Type 0 where
  pub maps : map (λ v. maps_of (taken_of v leaving.taken)) (0 ∷ 1 ∷ []) ≡ ((0 ∷ []) ∷ (1 ∷ []) ∷ []) ∷ ((2 ∷ []) ∷ []) ∷ []
  pub now : Plain.current_maps leaving ≡ (unmapped ∷ []) ∷ (2 ∷ []) ∷ replicate 6 (unmapped ∷ [])
  pub marks : map (λ d. map (marked leaving d) (0 ∷ 1 ∷ 2 ∷ 3 ∷ [])) (15 ∷ 18 ∷ 19 ∷ [])
      ≡ (true ∷ true ∷ true ∷ false ∷ []) ∷ (false ∷ true ∷ true ∷ false ∷ []) ∷ (false ∷ false ∷ true ∷ false ∷ []) ∷ []

pub left-tried : Left
unfolding leaving marked Plain.current_maps
left-tried = record { maps = refl; now = refl; marks = refl }

-- ---- audit: "each count is the number of map cells naming the block"

-- volume 0 has block 0 on day 5 and block 1 in its place on day 8; the blocks have these counts
unfoldable pub counted : ℕ → ℕ → Book
counted c₀ c₁ = record {
  sizes = new_sizes 2 2 2 2;
  day = 8;
  cursor = 0;
  retentions = 10 ∷ replicate 7 0;
  entries = hold c₀ 15 1 ∷ hold c₁ 0 2 ∷ [];
  maps = (1 ∷ unmapped ∷ []) ∷ replicate 7 (unmapped ∷ unmapped ∷ []);
  slots = record { volume = 0; retire = false; day = 5; first = 0; number = 1 } ∷ record { volume = 0; retire = false; day = 8; first = 1; number = 1 } ∷ [];
  records = record { lbn = 0; before = unmapped; after = 0 } ∷ record { lbn = 0; before = 0; after = 1 } ∷ [];
}

pub record Audited : Type 0 where
  pub first : map (λ c. audit (counted c 1)) (0 ∷ 1 ∷ []) ≡ true ∷ false ∷ []
  pub second : map (λ c. audit (counted 0 c)) (0 ∷ 1 ∷ 2 ∷ []) ≡ false ∷ true ∷ false ∷ []

pub audited_tried : Audited
unfolding
    counted free_entry no_print kept journal slots_of backup_count days image no_maps maps_sound count_sound expiry_sound prints_sound cell_sound
    current_sound backup_sound backups_sound audit
audited_tried = record { first = refl; second = refl }
