-- A retirement on the plain store and in a volume's history, worked out (document 02, K6): its numbers, what becomes of the list and of the current
-- map, and that the newest backup ends with its own days.
use Prim.Native.Nat.{ℕ}
use mathlib.Core.Path.{◌≡◌, refl}
use mathlib.Core.List.{List, [], ◌∷◌, map}
use lib.ListN.{replicate}
use Rattle.words.specs.Blocks.{unmapped}
use Rattle.book.specs.Book.{Sizes}
use Rattle.model.specs.Days.{kept, bad_day, not_after}
use Rattle.model.specs.Plain.{free, image, retirement, Plain, at_day, with_taken, current_of, read_number}
use Rattle.model.specs.PlainBackup.{backup_number}
use Rattle.model.specs.PlainRetire.{retire_number, retired, retire}
use Rattle.model.specs.Calls
use Rattle.model.specs.Calls.{number, gave}
use Rattle.model.specs.Sides.{step_of, plain}
use Rattle.model.specs.History.{History, noted, day_noted, with_left, history_number, history_run_number, sent_block}

abbrev sizes : ℕ → ℕ → Sizes
sizes s j = record { layout = 3; n = 2; l = 3; s = s; j = j }

-- volume 0 keeps 10 days and has one backup, of day 5, with two of three cells mapped and two changes
abbrev box : ℕ → ℕ → Plain
box s j = record {
  sizes = sizes s j;
  day = 5;
  cursor = 0;
  blocks = replicate 2 free;
  retentions = 10 ∷ 0 ∷ [];
  taken = record { volume = 0; day = 5; what = image (1 ∷ unmapped ∷ 0 ∷ []); changes = 2 } ∷ [];
}

abbrev left : Plain
left = (retired (box 4 9) 0 6).store

-- a history with a backup of day 5, and retired on these days
abbrev sent : List ℕ → History
sent days = record { retention = 10; sent = record { day = 5; changes = [] } ∷ []; left = days }

pub record Leaves : Type 0 where
  -- 5: "above 7", not enrolled; 7: not above its last backup
  pub numbers : map (λ v. retire_number (box 4 9) v 6) (0 ∷ 1 ∷ 8 ∷ []) ≡ 0 ∷ 5 ∷ 5 ∷ []
  pub days : map (retire_number (box 4 9) 0) (4 ∷ 5 ∷ 6 ∷ 60000 ∷ 60001 ∷ []) ≡ 7 ∷ 7 ∷ 0 ∷ 0 ∷ 7 ∷ []
  -- "9 and 10 count it and its cells"
  pub slots : map (λ s. retire_number (box s 9) 0 6) (1 ∷ 2 ∷ []) ≡ 9 ∷ 0 ∷ []
  pub records : map (λ j. retire_number (box 4 j) 0 6) (3 ∷ 4 ∷ []) ≡ 10 ∷ 0 ∷ []
  pub counted : backup_number left 1 7 (0 ∷ 0 ∷ []) ≡ 5
  -- "its newest map stops being current and stays in the list"; "the answer is the number of cells"
  pub answer : (plain (box 4 9) (Calls.retire 0 6)).answer ≡ gave (2 ∷ [])
  pub current : current_of left 0 ≡ unmapped ∷ unmapped ∷ unmapped ∷ []
  pub list : left.taken
      ≡ record { volume = 0; day = 5; what = image (1 ∷ unmapped ∷ 0 ∷ []); changes = 2 }
      ∷ record { volume = 0; day = 6; what = retirement; changes = 2 }
      ∷ []
  pub day : left.day ≡ 6
  -- "5 also covers a retired volume for .. backup and retire"
  pub again : retire_number left 0 7 ≡ 5
  pub backs : backup_number left 0 7 (0 ∷ 0 ∷ []) ≡ 5
  -- kept until its own day plus retention, and the retirement has no number
  pub reads : map (λ d. read_number (at_day d left) 0 1 0) (6 ∷ 15 ∷ 16 ∷ []) ≡ 0 ∷ 0 ∷ 16 ∷ []
  pub stays : read_number (at_day 16 (box 4 9)) 0 1 0 ≡ 0
  pub behind : read_number left 0 2 0 ≡ 15
  -- the history says the same of the days; nothing was sent, so that a kept backup gives 18
  pub owed : map (λ d. history_number 3 (sent (6 ∷ [])) d 1 0) (15 ∷ 16 ∷ []) ≡ 18 ∷ 16 ∷ []
  pub owed_living : history_number 3 (sent []) 16 1 0 ≡ 18
  pub owed_run : map (λ d. history_run_number 3 (sent (6 ∷ [])) d 1 0 1 512) (15 ∷ 16 ∷ []) ≡ 18 ∷ 16 ∷ []
  pub none_behind : history_number 3 (sent (6 ∷ [])) 6 2 0 ≡ 15
  -- an accepted retirement of this volume is noted, with its day
  pub notes : noted 0 (sent []) (Calls.retire 0 6) (gave (2 ∷ [])) ≡ sent (6 ∷ [])
  pub notes_other : noted 1 (sent []) (Calls.retire 0 6) (gave (2 ∷ [])) ≡ sent []
  pub notes_refused : noted 0 (sent []) (Calls.retire 0 6) (number 7) ≡ sent []
  pub notes_day : map (day_noted 5 (Calls.retire 0 6)) (gave (2 ∷ []) ∷ number 9 ∷ []) ≡ 6 ∷ 5 ∷ []

pub leaves-tried : Leaves
unfolding
    kept bad_day not_after at_day with_taken read_number backup_number retire_number retired retire step_of plain with_left history_number history_run_number
    sent_block
leaves-tried = record {
  numbers = refl;
  days = refl;
  slots = refl;
  records = refl;
  counted = refl;
  answer = refl;
  current = refl;
  list = refl;
  day = refl;
  again = refl;
  backs = refl;
  reads = refl;
  stays = refl;
  behind = refl;
  owed = refl;
  owed_living = refl;
  owed_run = refl;
  none_behind = refl;
  notes = refl;
  notes_other = refl;
  notes_refused = refl;
  notes_day = refl;
}
