-- What a host is shown after cases d and g, and the numbers that refuse to show it, by computation.
use Prim.Native.Nat.{ℕ}
use mathlib.Core.Path.{◌≡◌, refl}
use mathlib.Core.List.{List, [], ◌∷◌, ◌++◌}
use lib.ListN.{take, replicate}
use Rattle.words.specs.Lists.{joined}
use Rattle.words.specs.Outcome.{refused, accepted}
use Rattle.book.specs.Book.{no_print}
use Rattle.book.proofs.AfterD.{after_d}
use Rattle.model.specs.OnBytes.{after}
use Rattle.model.specs.Sides.{end_of, ours}
use Rattle.model.specs.Views.{sizes_bytes, used_bytes, volume_bytes, backups_bytes, cells_bytes, blocks_bytes, output_after}
use Rattle.cases.proofs.Open.{model}
use Rattle.cases.proofs.Letters.{A, B, C, print_of, over, list, box}
use Rattle.cases.proofs.Cases.{sizes, call_of, table, calls}

unfoldable pub after_g : List ℕ
after_g = (end_of (ours 280) (box sizes) (take 10 calls)).book

-- ---- all but the day, whether the older backups are kept, and block 0

pub record Shown (b : List ℕ) (today kept : ℕ) (block0 : List ℕ) : Type 0 where
  pub sized : sizes_bytes b ≡ accepted sizes
  pub used : used_bytes b ≡ accepted (record { slots = 4; records = 5; day = today })
  pub volume0 : volume_bytes b 0 ≡ accepted (record { retention = 10; backups = 2; retired = 65535 })
  pub volume1 : volume_bytes b 1 ≡ accepted (record { retention = 3; backups = 2; retired = 65535 })
  -- of days 5 and 8, and of 6 and 9
  pub backups0 : backups_bytes b 0 16 ≡ accepted (5 ∷ 0 ∷ 2 ∷ 0 ∷ 15 ∷ 0 ∷ kept ∷ 0 ∷ 8 ∷ 0 ∷ 1 ∷ 0 ∷ 255 ∷ 255 ∷ 1 ∷ 0 ∷ [])
  pub backups1 : backups_bytes b 1 16 ≡ accepted (6 ∷ 0 ∷ 1 ∷ 0 ∷ 9 ∷ 0 ∷ kept ∷ 0 ∷ 9 ∷ 0 ∷ 1 ∷ 0 ∷ 255 ∷ 255 ∷ 1 ∷ 0 ∷ [])
  pub cells0 : cells_bytes b 0 8 ≡ accepted (2 ∷ 0 ∷ 1 ∷ 0 ∷ 255 ∷ 255 ∷ 255 ∷ 255 ∷ [])
  pub cells1 : cells_bytes b 1 8 ≡ accepted (255 ∷ 255 ∷ 255 ∷ 255 ∷ 255 ∷ 255 ∷ 1 ∷ 0 ∷ [])
  pub blocks : blocks_bytes b 88 ≡ accepted (joined
      (block0
      ∷ ((1 ∷ 0 ∷ 2 ∷ 0 ∷ 0 ∷ 0 ∷ []) ++ print_of B)
      ∷ ((1 ∷ 0 ∷ 1 ∷ 0 ∷ 0 ∷ 0 ∷ []) ++ print_of C)
      ∷ replicate 22 0
      ∷ []))

pub shown_d : Shown after_d 9 1 ((1 ∷ 0 ∷ 0 ∷ 0 ∷ 15 ∷ 0 ∷ []) ++ print_of A)
unfolding model after_d
shown_d = record {
  sized = refl;
  used = refl;
  volume0 = refl;
  volume1 = refl;
  backups0 = refl;
  backups1 = refl;
  cells0 = refl;
  cells1 = refl;
  blocks = refl;
}

pub shown_g : Shown after_g 19 0 ((0 ∷ 0 ∷ 0 ∷ 0 ∷ 15 ∷ 0 ∷ []) ++ no_print)
unfolding model over list call_of table calls after_g
shown_g = record {
  sized = refl;
  used = refl;
  volume0 = refl;
  volume1 = refl;
  backups0 = refl;
  backups1 = refl;
  cells0 = refl;
  cells1 = refl;
  blocks = refl;
}

-- ---- 5 before 20; a byte too few; what stays as it was

abbrev out : ℕ → List ℕ
out n = replicate n 170

pub record Refused : Type 0 where
  pub above : volume_bytes after_d 8 ≡ refused 5
  pub unenrolled : volume_bytes after_d 2 ≡ refused 5
  pub above_backups : backups_bytes after_d 8 0 ≡ refused 5
  pub unenrolled_cells : cells_bytes after_d 2 0 ≡ refused 5
  pub short_backups : backups_bytes after_d 0 15 ≡ refused 20
  pub short_cells : cells_bytes after_d 0 7 ≡ refused 20
  pub short_blocks : blocks_bytes after_d 87 ≡ refused 20
  pub answer_left : after (λ w. w.retention) (volume_bytes after_d 2) 170 ≡ 170
  pub output_left : output_after (cells_bytes after_d 0 7) (out 7) ≡ out 7
  pub rest_left : output_after (cells_bytes after_d 0 10) (out 10) ≡ (2 ∷ 0 ∷ 1 ∷ 0 ∷ 255 ∷ 255 ∷ 255 ∷ 255 ∷ []) ++ out 2

pub refuses : Refused
unfolding model after_d
refuses = record {
  above = refl;
  unenrolled = refl;
  above_backups = refl;
  unenrolled_cells = refl;
  short_backups = refl;
  short_cells = refl;
  short_blocks = refl;
  answer_left = refl;
  output_left = refl;
  rest_left = refl;
}
