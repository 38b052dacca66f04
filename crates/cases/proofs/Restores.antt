-- Restore (document 02, K2) after case d, where the header's day is 9, volume 0 has backups on 5 and 8, and volume 1 on 6 and 9: by the
-- book, and by what the volumes sent.
use Prim.Native.Nat.{ℕ}
use mathlib.Core.Path.{◌≡◌, refl}
use mathlib.Core.List.{List, [], ◌∷◌, ◌++◌, map}
use lib.ListN.{set, take}
use Rattle.words.specs.Outcome.{Outcome, refused, accepted}
use Rattle.book.proofs.AfterD.{after_d}
use Rattle.model.specs.Calls.{Call, enrol, backup}
use Rattle.model.specs.History.{history_of, history_restore}
use Rattle.model.specs.OnBytes.{after, collect_bytes, restore_bytes}
use Rattle.claims.specs.Claims.{restored_at}
use Rattle.cases.proofs.Open.{model}
use Rattle.cases.proofs.Letters.{A, B, C, block_of, over, list, empty}
use Rattle.cases.proofs.Cases.{call_of, table, calls}
use Rattle.cases.proofs.Edges.{our_end, small}
use Rattle.cases.proofs.Examples.{answers}

-- volume, number, first LBN, length, room of the output
pub data Run : Type 0 where
  run : ℕ → ℕ → ℕ → ℕ → ℕ → Run

unfoldable pub pool_after_d : List ℕ
pool_after_d = block_of A ++ (block_of B ++ (block_of C ++ block_of 255))

unfoldable pub given : Run → Outcome (List ℕ)
given (run v k first many room) = restore_bytes after_d pool_after_d v k first many room

unfoldable pub owed : Run → Outcome (List ℕ)
owed (run v k first many room) = history_restore 4 (history_of v (take 6 calls) (take 6 answers)) 9 k first many room

unfoldable pub tried : List Run
tried =
    -- LBN 0 from a record, LBN 1 from the current map; then both from the map
    run 0 1 0 2 1024
    ∷ run 0 2 0 2 1024
    ∷ run 1 1 3 1 9999
    -- length 0 at L, past it, and where 18 would come
    ∷ run 0 1 4 0 0
    ∷ run 0 1 5 0 0
    ∷ run 0 1 2 0 0
    -- 18 at the first and at the last LBN of a run
    ∷ run 1 1 2 2 1024
    ∷ run 0 1 0 3 1536
    -- 21 by L, by the room, and where 18 would come too; sums of two bytes and more
    ∷ run 0 1 3 2 1024
    ∷ run 0 1 0 2 1023
    ∷ run 0 1 2 1 511
    ∷ run 0 1 65535 1 512
    ∷ run 0 1 0 65535 0
    -- 5 and 15 before it
    ∷ run 8 0 5 1 0
    ∷ run 2 0 5 1 0
    ∷ run 0 0 5 1 0
    ∷ run 0 3 5 0 0
    ∷ []

unfoldable pub outcomes : List (Outcome (List ℕ))
outcomes =
    accepted (block_of A ++ block_of B)
    ∷ accepted (block_of C ++ block_of B)
    ∷ accepted (block_of A)
    ∷ accepted []
    ∷ refused 21
    ∷ accepted []
    ∷ refused 18
    ∷ refused 18
    ∷ map refused (21 ∷ 21 ∷ 21 ∷ 21 ∷ 21 ∷ 5 ∷ 5 ∷ 15 ∷ 15 ∷ [])

-- ---- one LBN in three backups

unfoldable pub thrice : List Call
thrice = enrol 0 9 ∷ backup 0 1 (list 0 (A ∷ [])) ∷ backup 0 2 (list 0 (B ∷ [])) ∷ backup 0 3 (list 0 (A ∷ [])) ∷ []

unfoldable pub nothing : List Call
nothing = enrol 0 9 ∷ backup 0 1 empty ∷ []

pub record Restores : Type 0 where
  pub book : map given tried ≡ outcomes
  pub sent : map owed tried ≡ outcomes
  -- 16 before 21: on day 18 backup 1 of volume 1 is no longer kept
  pub lapsed : restore_bytes (after (λ d. d.book) (collect_bytes after_d 18) []) pool_after_d 1 1 9 9 0 ≡ refused 16
  -- 1, 2 and 3 before all others; the header's last field is zero
  pub short : restore_bytes (take 279 after_d) pool_after_d 8 0 9 9 0 ≡ refused 1
  pub form : restore_bytes (set after_d 18 1) pool_after_d 8 0 9 9 0 ≡ refused 2
  pub pool : restore_bytes after_d (take 2047 pool_after_d) 8 0 9 9 0 ≡ refused 3
  -- "that LBN's first record" after k
  pub first : map (λ k. restored_at (our_end small thrice) 0 k 0 1 512) (1 ∷ 2 ∷ 3 ∷ [])
      ≡ map (λ a. accepted (block_of a)) (A ∷ B ∷ A ∷ [])
  -- a backup without changes: no room is 21, room is 18
  pub none : map (restored_at (our_end small nothing) 0 1 0 1) (0 ∷ 512 ∷ []) ≡ map refused (21 ∷ 18 ∷ [])

pub restores : Restores
unfolding model over list empty call_of table calls after_d answers pool_after_d given owed tried outcomes thrice nothing
restores = record { book = refl; sent = refl; lapsed = refl; short = refl; form = refl; pool = refl; first = refl; none = refl }
