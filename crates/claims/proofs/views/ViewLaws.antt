-- A volume's backups as they are shown: how many bytes, what stands in a row, and that its columns agree with read.
use Prim.Native.Nat.{ℕ, zero, suc, ◌+◌, ◌*◌, ◌≤◌, ◌<◌}
use mathlib.Core.Path.{◌≡◌, refl, sym, ap, ◌∙◌}
use mathlib.Core.Bool.{Bool, true, false, not}
use mathlib.Core.List.{List, [], ◌∷◌, ◌++◌, map}
use native.Mathlib.Nat.{add_assoc, suc-mul}
use native.Mathlib.Omega.{arith}
use lib.Dec.{leb}
use lib.ListN.{length, get_or, drop, get_or-append}
use lib.Seq.{get_or-append-add}
use borrow.Author.Tests.{le-leb}
use Rattle.words.specs.Choice.{when◌then◌else◌}
use Rattle.words.specs.Lists.{bit, count_of}
use Rattle.words.specs.Numbers.{num}
use Rattle.words.proofs.NumberLaws.{two_back}
use Rattle.book.specs.Book.{Book, retention_of}
use Rattle.model.specs.Days.{kept_by, kept}
use Rattle.model.specs.Journal.{Backup, slots_of, backup_count, days}
use Rattle.model.specs.JournalAt.{no_backup}
use Rattle.claims.proofs.kept.Retirements.{RetiresLast, is_backup}
use Rattle.model.specs.Views.{kept_until, backup_row, backup_rows, backups_of}

-- ---- the two columns of a row say the same of every day that two bytes can hold

pub kept-until : (t : ℕ) (later : List ℕ) (r d : ℕ) → d ≤ 65535 → kept_by t later r d ≡ leb d (kept_until t later r)
kept-until t [] r d h = sym (le-leb d 65535 h)
kept-until t (u ∷ us) r d h = refl

-- ---- eight bytes a row

-- a number within the first row, and past it
num-front : (row rest : List ℕ) (i : ℕ) → i + 1 < length row → num (row ++ rest) i ≡ num row i
num-front row rest i h = rw (get_or-append row rest 0 i (omega arith), get_or-append row rest 0 (i + 1) h)

num-past : (row rest : List ℕ) (i : ℕ) → num (row ++ rest) (length row + i) ≡ num rest i
num-past row rest i = rw (get_or-append-add row rest i 0, add_assoc (length row) i 1, get_or-append-add row rest (i + 1) 0)

abbrev days_of : List Backup → List ℕ
days_of bs = map (λ (b : Backup). b.day) bs

own-day : (bs : List Backup) (k : ℕ) → get_or (days_of bs) k 0 ≡ (get_or bs k no_backup).day
own-day [] k = refl
own-day (b ∷ bs) zero = refl
own-day (b ∷ bs) (suc k) = own-day bs k

module _ (r d : ℕ) where
  -- a backup's row, and none for a retirement
  abbrev row_of : Bool → Backup → List Backup → List ℕ
  row_of out b bs = when out then [] else backup_row b (days_of bs) r d

  length-rows : (bs : List Backup) → length (backup_rows r d bs) ≡ count_of is_backup bs * 8
  length-rows [] = refl
  length-rows (b ∷ bs) = go b.retire (length-rows bs)
    where
      go : (t : Bool) → length (backup_rows r d bs) ≡ count_of is_backup bs * 8
          → length (row_of t b bs ++ backup_rows r d bs) ≡ (when not t then suc (count_of is_backup bs) else count_of is_backup bs) * 8
      go true n = n
      go false n = rw suc-mul (omega arith)

  row_at : (bs : List Backup) (k j : ℕ) → RetiresLast bs → k < count_of is_backup bs → j < 7
      → num (backup_rows r d bs) (k * 8 + j) ≡ num (backup_row (get_or bs k no_backup) (drop (suc k) (days_of bs)) r d) j
  unfolding RetiresLast
  row_at [] k j ends h g = absurd (omega arith)
  row_at (b ∷ bs) k j ends h g = go b.retire k ends.0 h (λ i l. row_at bs i j ends.1 l g)
    where
      go : (t : Bool) (k : ℕ) → (t ≡ true → bs ≡ []) → k < (when not t then suc (count_of is_backup bs) else count_of is_backup bs)
          → ((i : ℕ) → i < count_of is_backup bs
          → num (backup_rows r d bs) (i * 8 + j) ≡ num (backup_row (get_or bs i no_backup) (drop (suc i) (days_of bs)) r d) j)
          → num (row_of t b bs ++ backup_rows r d bs) (k * 8 + j)
          ≡ num (backup_row (get_or (b ∷ bs) k no_backup) (drop (suc k) (days_of (b ∷ bs))) r d) j
      go true k e h ih = let none : count_of is_backup bs ≡ 0 = ap (λ (cs : List Backup). count_of is_backup cs) (e refl) in absurd (omega arith)
      go false zero e h ih =
          let f : 0 * 8 + j ≡ j = omega arith in
          rw f (num-front (backup_row b (days_of bs) r d) (backup_rows r d bs) j (omega arith))
      go false (suc k) e h ih =
          let row = backup_row b (days_of bs) r d in
          let f : suc k * 8 + j ≡ length row + (k * 8 + j) = rw suc-mul (omega arith) in
          rw f (num-past row (backup_rows r d bs) (k * 8 + j) ∙ ih k (omega arith))

module _ (x : Book) (v : ℕ) where
  pub length-backups_of : length (backups_of x v) ≡ backup_count x v * 8
  unfolding backups_of backup_count
  length-backups_of = length-rows (retention_of x v) x.day (slots_of x v)

  -- backup k + 1 stands in row k, where no slot of the volume follows its retirement
  module _ (ends : RetiresLast (slots_of x v)) (k : ℕ) (h : k < backup_count x v) where
    pub until-shown : num (backups_of x v) (k * 8 + 4) ≡ kept_until (get_or (days x v) k 0) (drop (suc k) (days x v)) (retention_of x v)
    unfolding backups_of backup_count days
    until-shown =
        rw (own-day (slots_of x v) k) (row_at (retention_of x v) x.day (slots_of x v) k 4 ends h (omega arith)
        ∙ two_back (kept_until (get_or (slots_of x v) k no_backup).day (drop (suc k) (days_of (slots_of x v))) (retention_of x v)))

    -- read's number 16 goes by the flag
    pub flag-shown : num (backups_of x v) (k * 8 + 6) ≡ bit (kept (days x v) (retention_of x v) x.day (suc k))
    unfolding backups_of backup_count kept days
    flag-shown =
        rw (own-day (slots_of x v) k) (row_at (retention_of x v) x.day (slots_of x v) k 6 ends h (omega arith)
        ∙ two_back (bit (kept_by (get_or (slots_of x v) k no_backup).day (drop (suc k) (days_of (slots_of x v))) (retention_of x v) x.day)))

    -- .. and the flag is 1 up to the day that stands beside it
    pub flag-until : x.day ≤ 65535 → num (backups_of x v) (k * 8 + 6) ≡ bit (leb x.day (num (backups_of x v) (k * 8 + 4)))
    unfolding kept
    flag-until e = flag-shown ∙ rw until-shown (ap bit (kept-until (get_or (days x v) k 0) (drop (suc k) (days x v)) (retention_of x v) x.day e))
