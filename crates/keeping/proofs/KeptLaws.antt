-- Laws of the check of a backup: each way out of the code gives the number, or the slot, that the definitions give.
use Prim.Native.Nat.{ℕ, zero, suc, ◌≤◌, ◌<◌}
use mathlib.Core.Path.{◌≡◌, refl, ◌∙◌}
use mathlib.Core.Bool.{Bool, true, false, not, ◌||◌}
use mathlib.Core.Logic.{◌⊎◌, inl, inr}
use native.Mathlib.Omega.{arith}
use lib.Dec.{ltb, eqb}
use lib.ListN.{length}
use borrow.Author.Tests.{eq-eqb, ne_eqb, lt-ltb, le-ltb}
use Rattle.std.proofs.Common.{Ok, Err}
use Rattle.words.proofs.ChoiceLaws.{or_l, or_r, not_both}
use Rattle.words.proofs.Ranges.{below_or_not}
use Rattle.words.specs.declared.refusals.Refusal.TheVariants.{BadVolume, NoBackup, NotKept}
use Rattle.book.specs.Book.{volumes, Book, retention_of}
use Rattle.book.specs.Form.{days_ok}
use Rattle.claims.proofs.agreement.AgreeLaws.{volume-inside}
use Rattle.model.specs.Days.{kept}
use Rattle.model.specs.Journal.{slots_of, backup_count, days, no_volume}
use Rattle.model.specs.Kept.{kept_number}
use Rattle.claims.proofs.kept.ReadNumbers.{numbers}
use Rattle.claims.proofs.kept.Retirements.{RetiresLast, slots_end, count-within, number-backup, no_number}
use Rattle.keeping.specs.declared.After.{After}
use Rattle.keeping.specs.After.{KthIs, kept_from}
use Rattle.keeping.specs.Kept.{KeptIs}
use Rattle.keeping.proofs.AfterLaws.{kept-after}

-- ---- the k-th slot and the numbers: where it retires the volume, k is above them, else it is among them

module _ (x : Book) (v : ℕ) where
  behind : (k : ℕ) (a : After) → (k ≡ 0 → ⊥) → KthIs x v k a → RetiresLast (slots_of x v) → a.retire ≡ true → backup_count x v < k
  behind zero a some is ends out = absurd (some refl)
  behind (suc j) a some is ends out = go (below_or_not j (backup_count x v))
    where
      go : (j < backup_count x v) ⊎ (backup_count x v ≤ j) → backup_count x v < suc j
      go (inl l) = absurd (not_both a.retire out (is.retire j refl ∙ number-backup x v ends j l))
      go (inr h) = omega arith

  among : (k : ℕ) (a : After) → (k ≡ 0 → ⊥) → KthIs x v k a → RetiresLast (slots_of x v) → a.retire ≡ false → k ≤ backup_count x v
  among zero a some is ends in_use = absurd (some refl)
  among (suc j) a some is ends in_use = go (below_or_not j (backup_count x v))
    where
      go : (j < backup_count x v) ⊎ (backup_count x v ≤ j) → suc j ≤ backup_count x v
      go (inl l) = omega arith
      go (inr h) =
          let m = is.enough in
          absurd (not_both a.retire (is.retire j refl ∙ no_number x v ends j h (omega arith)) in_use)

module _ (x : Book) (v k : ℕ) where
  backup_5 : no_volume x v ≡ true → KeptIs x v k (Err BadVolume)
  unfolding kept_number
  backup_5 e = rw e

  pub backup-above : 7 < v → KeptIs x v k (Err BadVolume)
  unfolding no_volume
  backup-above h = backup_5 (or_l (ltb 7 v) _ (lt-ltb 7 v h))

  pub backup_unenrolled : retention_of x v ≡ 0 → KeptIs x v k (Err BadVolume)
  unfolding no_volume
  backup_unenrolled e = backup_5 (or_r (ltb 7 v) (not (not (eqb (retention_of x v) 0))) (rw (eq-eqb (retention_of x v) 0 e)))

  module _ (r : ℕ) (same : r ≡ retention_of x v) (inside : v ≤ 7) (enrolled : r ≡ 0 → ⊥) where
    there : no_volume x v ≡ false
    unfolding no_volume
    there = rw (le-ltb 7 v inside, ne_eqb (retention_of x v) 0 (λ e. enrolled (same ∙ e)))

    pub backup-zero : k ≡ 0 → KeptIs x v k (Err NoBackup)
    unfolding kept_number
    backup-zero e = rw (there, eq-eqb k 0 e)

    module _ (some : k ≡ 0 → ⊥) where
      pub backup-missing : length (days x v) < k → KeptIs x v k (Err NoBackup)
      unfolding kept_number
      backup-missing few =
          let w = count-within x v in
          rw (there, ne_eqb k 0 some, lt-ltb (backup_count x v) k (omega arith))

      module _ (a : After) (is : KthIs x v k a) (ordered : days_ok x.slots ≡ true) where
        pub backup-retired : a.retire ≡ true → KeptIs x v k (Err NoBackup)
        unfolding kept_number
        backup-retired out =
            let above = behind x v k a some is (slots_end x v ordered) out in
            rw (there, ne_eqb k 0 some, lt-ltb (backup_count x v) k above)

        module _ (in_use : a.retire ≡ false) where
          number-there : (eqb k 0 || ltb (backup_count x v) k) ≡ false
          number-there =
              let most = among x v k a some is (slots_end x v ordered) in_use in
              rw (ne_eqb k 0 some, le-ltb (backup_count x v) k most)

          pub backup_lapsed : kept_from x a.taken a.at r ≡ false → KeptIs x v k (Err NotKept)
          unfolding kept_number
          backup_lapsed f = rw (there, number-there, ← same, kept-after x v k r a some is, f)

          pub backup-kept : kept_from x a.taken a.at r ≡ true → KeptIs x v k (Ok a.at)
          unfolding kept_number
          backup-kept f = (rw (there, number-there, ← same, kept-after x v k r a some is, f), is.later)

-- the volume of a backup that is there
pub kept-volume : (x : Book) (v k : ℕ) → kept_number x v k ≡ 0 → v < volumes
unfolding kept_number
kept-volume x v k e =
    volume-inside x v (go (no_volume x v) (eqb k 0 || ltb (backup_count x v) k)
    (kept (days x v) (retention_of x v) x.day k) e)
  where
    go : (a b c : Bool) → numbers a b c 0 ≡ 0 → a ≡ false
    go true b c f = absurd (omega arith)
    go false b c f = refl
