-- A backup on both sides, from where they agree: refused by the same number, which is never 1 to 4, 13 or 14, or accepted with the
-- same answer, and then both agree again. Entries that the changes don't name stay.
use Prim.Native.Nat.{ℕ, zero, suc, ◌<◌}
use mathlib.Core.Path.{◌≡◌, refl, sym, ap, subst, ◌∙◌}
use mathlib.Core.Bool.{false, ◌&&◌}
use mathlib.Core.List.{List}
use Rattle.words.proofs.Accepted.{refused_not, accepted-same}
use Rattle.words.specs.Lists.{some_of}
use Rattle.words.specs.Outcome.{Outcome, refused, accepted, and_then, unless}
use Rattle.runs.specs.Changes.{changes, change_count, lbns}
use Rattle.book.specs.Book.{volumes, Book, entry_at}
use Rattle.book.proofs.SizesIn.{sizes-facts}
use Rattle.model.specs.Backup.{Work, Backed, until_next, begun, closed, run_changes, backup_number, backup}
use Rattle.model.specs.Plain.{Plain}
use Rattle.model.specs.PlainBackup
use Rattle.model.specs.PlainBackup.{PlainWork, PlainBacked}
use Rattle.model.specs.Calls.{is_accepted}
use Rattle.model.specs.Sides.{step_of, store_backed, plain}
use Rattle.claims.specs.Claims.{is_old_or_new, changes_name, is_damage}
use Rattle.claims.proofs.agreement.Agree.{Fit, Agree}
use Rattle.claims.proofs.agreement.AgreeLaws.{volume-inside, backups-agree}
use Rattle.claims.proofs.agreement.Lockstep.{BothMoved}
use Rattle.claims.proofs.agreement.BackupStart.{changes-both}
use Rattle.claims.proofs.form.ChangesFit.{changes-fit}
use Rattle.claims.proofs.form.BackupAllowed.{Allowed, number-zero, number_damage}
use Rattle.claims.proofs.agreement.BackupNumber.{number-agree}
use Rattle.claims.proofs.agreement.BackupAfter.{agree_after}
use Rattle.claims.proofs.agreement.BackupTouching.{touching}

-- an accepted backup from the book x and the store q, as both sides have it
pub record BackedAlike (x : Book) (q : Plain) (v : ℕ) (list : List ℕ) (d : Backed) (e : PlainBacked) : Type 0 where
  pub number : e.number ≡ d.number
  pub taken : e.taken ≡ d.taken
  pub touched : e.touched ≡ d.touched
  pub agree : Fit d.book → Agree d.book d.pool e.store
  pub touching : (p : ℕ) → p < x.sizes.n → some_of (is_old_or_new q e.store v p) (lbns list) ≡ false
      → entry_at d.book.entries p ≡ entry_at x.entries p

pub data BothBacked (x : Book) (q : Plain) (v : ℕ) (list : List ℕ) : Outcome Backed → Outcome PlainBacked → Type 0 where
  stopped : (k : ℕ) → is_damage k ≡ false → BothBacked x q v list (refused k) (refused k)
  backed : (d : Backed) (e : PlainBacked) → BackedAlike x q v list d e → BothBacked x q v list (accepted d) (accepted e)

module _ {x : Book} {pool : List ℕ} {q : Plain} (g : Agree x pool q) (v t : ℕ) (list : List ℕ) where
  -- the changes are made, and the slot is added
  close-both : Allowed x v t list → v < volumes → (o : Outcome Work) (o' : Outcome PlainWork)
      → BothMoved x v (until_next x v) (changes list) o o'
      → BothBacked x q v list (and_then o (λ w. accepted (closed x v t (change_count list) w)))
      (and_then o' (λ u. accepted (PlainBackup.closed q v t (change_count list) u)))
  unfolding closed PlainBackup.closed
  close-both ok inside o o' (BothMoved.stopped k d) = stopped k d
  close-both ok inside o o' (BothMoved.moved w u a r) =
      backed (closed x v t (change_count list) w) (PlainBackup.closed q v t (change_count list) u) (record {
        number = ap suc (backups-agree g v inside);
        taken = a.alike.taken;
        touched = a.alike.touched;
        agree = agree_after g v t list ok inside w u a r;
        touching = touching g v t list ok inside w u a r;
      })

  run_agree : Allowed x v t list → BothBacked x q v list
      (and_then (run_changes v (until_next x v) (changes list) (begun x pool)) (λ w. accepted (closed x v t (change_count list) w)))
      (and_then (PlainBackup.run_changes (changes list) (PlainBackup.begun q v))
      (λ u. accepted (PlainBackup.closed q v t (change_count list) u)))
  run_agree ok =
      let inside = volume-inside x v ok.volume in
      close-both ok inside _ _
      (changes-both g v inside (until_next x v) (changes list)
      (changes-fit x.sizes.l list (sizes-facts x.sizes g.fit.sizes).l ok.good))

  pub backup-agree : BothBacked x q v list (backup x pool v t list) (PlainBackup.backup q v t list)
  unfolding backup PlainBackup.backup
  backup-agree = rw (number-agree g v t list) (go (backup_number x v t list) refl)
    where
      ours : Outcome Backed
      ours = and_then (run_changes v (until_next x v) (changes list) (begun x pool)) (λ w. accepted (closed x v t (change_count list) w))

      theirs : Outcome PlainBacked
      theirs =
          and_then (PlainBackup.run_changes (changes list) (PlainBackup.begun q v))
          (λ u. accepted (PlainBackup.closed q v t (change_count list) u))

      go : (k : ℕ) → backup_number x v t list ≡ k → BothBacked x q v list (unless k ours) (unless k theirs)
      go zero e = run_agree (number-zero x v t list e)
      go (suc k) e = stopped (suc k) (sym (ap is_damage e) ∙ number_damage x v t list)

  -- ---- what follows

  -- "a refused backup's name none"; an accepted one leaves every entry that its changes don't name
  pub backup-touching : (d : Backed) → backup x pool v t list ≡ accepted d → (p : ℕ) → p < x.sizes.n → changes_name q v t list p ≡ false
      → entry_at d.book.entries p ≡ entry_at x.entries p
  unfolding changes_name plain step_of
  backup-touching d e p h n = go (backup x pool v t list) (PlainBackup.backup q v t list) backup-agree e n
    where
      go : (o : Outcome Backed) (o' : Outcome PlainBacked) → BothBacked x q v list o o' → o ≡ accepted d
          → (is_accepted (step_of q (and_then o' store_backed)).answer
          && some_of (is_old_or_new q (step_of q (and_then o' store_backed)).next v p) (lbns list)) ≡ false
          → entry_at d.book.entries p ≡ entry_at x.entries p
      go o o' (stopped k z) f m = absurd (refused_not k d f)
      go o o' (backed d' e' a) f m =
          subst (λ (b : Backed). entry_at b.book.entries p ≡ entry_at x.entries p) (accepted-same d' d f) (a.touching p h m)

  -- never 1 to 4, never 13 and never 14
  pub backup-undamaged : (k : ℕ) → backup x pool v t list ≡ refused k → is_damage k ≡ false
  backup-undamaged k e = go (backup x pool v t list) (PlainBackup.backup q v t list) backup-agree e
    where
      go : (o : Outcome Backed) (o' : Outcome PlainBacked) → BothBacked x q v list o o' → o ≡ refused k → is_damage k ≡ false
      go o o' (stopped j z) f = let same : j ≡ k = cc in sym (ap is_damage same) ∙ z
      go o o' (backed d' e' a) f = absurd (refused_not k d' (sym f))
