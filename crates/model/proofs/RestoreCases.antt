-- Restore on a book of three backups, each of LBN 0 of 2. Here, and not in `cases`, so that a wrong definition is refused by what it gives.
use Prim.Native.Nat.{ℕ, ◌+◌}
use mathlib.Core.Path.{◌≡◌, refl}
use mathlib.Core.Bool.{false}
use mathlib.Core.List.{List, [], ◌∷◌, ◌++◌, map}
use Rattle.words.specs.Blocks.{unmapped}
use Rattle.words.specs.Outcome.{Outcome, refused, accepted}
use Rattle.book.specs.Book.{Book}
use Rattle.book.specs.Next.{new_sizes}
use Rattle.model.specs.Days.{kept}
use Rattle.model.specs.Journal.{journal, slots_of, backup_count, days, is_retired, no_volume, no_living}
use Rattle.model.specs.Kept.{kept_number}
use Rattle.model.specs.Read.{image, read_number, read}
use Rattle.model.specs.Restore.{run_number, restore}
use Rattle.model.proofs.CaseBlocks.{block}

-- LBN 0 has block 0, then block 1, then block 0 again
unfoldable pub thrice : Book
thrice = record {
  sizes = new_sizes 2 2 3 3;
  day = 3;
  cursor = 0;
  retentions = 9 ∷ [];
  entries = [];
  maps = (0 ∷ unmapped ∷ []) ∷ [];
  slots = map (λ q. record { volume = 0; retire = false; day = q + 1; first = q; number = 1 }) (0 ∷ 1 ∷ 2 ∷ []);
  records =
      record { lbn = 0; before = unmapped; after = 0 }
      ∷ record { lbn = 0; before = 0; after = 1 }
      ∷ record { lbn = 0; before = 1; after = 0 }
      ∷ [];
}

-- volume, number, first LBN, length, room
unfoldable pub try : ℕ → ℕ → ℕ → ℕ → ℕ → Outcome (List ℕ)
try v k first many room = restore thrice (block 65 ++ block 66) v k first many room

pub record Tried : Type 0 where
  -- the first record after a backup decides
  pub run : map (λ k. try 0 k 0 1 512) (1 ∷ 2 ∷ 3 ∷ []) ≡ map (λ a. accepted (block a)) (65 ∷ 66 ∷ 65 ∷ [])
  -- 18, and 21 before it
  pub unmapped-lbn : try 0 1 0 2 1024 ≡ refused 18
  pub short : try 0 1 0 2 1023 ≡ refused 21
  pub past : try 0 1 1 2 1024 ≡ refused 21
  -- length 0
  pub nothing : map (λ l. try 0 1 l 0 0) (0 ∷ 1 ∷ 2 ∷ []) ≡ accepted [] ∷ accepted [] ∷ accepted [] ∷ []
  pub nothing-past : try 0 1 3 0 0 ≡ refused 21
  -- 5 and 15 before all others, also of length 0
  pub absent : try 1 1 3 0 0 ≡ refused 5
  pub later : try 0 4 3 0 0 ≡ refused 15

pub tried : Tried
unfolding try thrice restore run_number kept_number read read_number image kept journal slots_of backup_count days is_retired no_volume no_living
tried = record {
  run = refl;
  unmapped-lbn = refl;
  short = refl;
  past = refl;
  nothing = refl;
  nothing-past = refl;
  absent = refl;
  later = refl;
}
