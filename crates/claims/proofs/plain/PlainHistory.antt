-- Every call of the plain store keeps what its volumes sent, as the call and its answer tell it.
use Prim.Native.Nat.{ℕ, zero, suc, ◌≤◌, ◌<◌}
use mathlib.Core.Path.{◌≡◌, refl, subst}
use mathlib.Core.Bool.{Bool, true, false, not, ◌&&◌, ◌||◌}
use mathlib.Core.List.{List, [], ◌∷◌}
use native.Mathlib.Omega.{arith}
use lib.Dec.{ltb, eqb, eqb-suc-zero}
use borrow.Author.Tests.{ltb-false, eqb-true, eqb-false, ne_eqb, not-true, not-false}
use Rattle.words.specs.Choice.{when◌then◌else◌}
use Rattle.words.proofs.ChoiceLaws.{and_false}
use Rattle.words.proofs.Tests.{or_neither}
use Rattle.words.specs.Outcome.{Outcome, refused, accepted, and_then, unless}
use Rattle.runs.specs.Changes.{changes, change_count}
use Rattle.book.specs.Book.{volumes}
use Rattle.model.specs.Days.{bad_day, not_after, bad_retention}
use Rattle.claims.proofs.kept.DayLaws.{good-day}
use Rattle.model.specs.Plain
use Rattle.model.specs.Plain.{Plain, with_retention, retention_at, is_enrolled, taken_of, days_of, is_retired, no_living, collected}
use Rattle.model.specs.Plain.{enrol_number, collect_number}
use Rattle.model.specs.PlainBackup
use Rattle.model.specs.PlainBackup.{PlainWork, PlainBacked, backup_number, run_changes, begun, closed}
use Rattle.model.specs.PlainRetire
use Rattle.model.specs.PlainRetire.{PlainRetired, retire_number, retired}
use Rattle.model.specs.Calls.{Call, enrol, backup, collect, retire, read, audit}
use Rattle.model.specs.Sides.{answers_of, end_of, step_of, store_enrolled, store_backed, store_collected, store_retired, plain}
use Rattle.model.specs.History.{History, with_enrol, with_sent, with_left, noted, history_from, day_noted, day_from}
use Rattle.claims.proofs.form.Proper.{not_refused}
use Rattle.claims.proofs.plain.PlainProper.{changes_proper}
use Rattle.claims.proofs.plain.PlainRecalls.{Recalls, AllRecall}
use Rattle.claims.proofs.plain.PlainRecallsBackup.{backup_recalls}
use Rattle.claims.proofs.plain.PlainRecallsRetire.{retire_recalls}
use Rattle.claims.proofs.plain.PlainRecallsOthers.{enrol_recalls, collect_recalls}

-- ---- what it says that no number refuses a call

choice_zero : (t : Bool) (n m : ℕ) → (when t then suc n else m) ≡ 0 → (t ≡ false) × (m ≡ 0)
choice_zero true n m e = absurd (omega arith)
choice_zero false n m e = (refl, e)

enrol-allowed : (q : Plain) (v r : ℕ) → enrol_number q v r ≡ 0 → (v < volumes) × (retention_at q v ≡ 0)
unfolding enrol_number
enrol-allowed q v r e =
    let a = or_neither (ltb 7 v) (is_enrolled q v) (choice_zero (ltb 7 v || is_enrolled q v) 4 (when bad_retention r then 6 else 0) e).0 in (
      omega (arith, ltb-false 7 v a.0),
      eqb-true (retention_at q v) 0 (not-false (eqb (retention_at q v) 0) a.1),
    )

collect-allowed : (q : Plain) (t : ℕ) → collect_number q t ≡ 0 → q.day ≤ t
unfolding collect_number
collect-allowed q t e = ((good-day q.day t).0 (choice_zero (bad_day q.day t) 6 0 e).0).0

-- backup and retire start with the same two numbers, 5 and 7
living-allowed : (q : Plain) (v t m : ℕ)
    → (when no_living q v then 5 else when bad_day q.day t || not_after (days_of (taken_of v q.taken)) t then 7 else m) ≡ 0
    → (q.day ≤ t) × (retention_at q v ≡ 0 → ⊥) × (is_retired (taken_of v q.taken) ≡ false)
living-allowed q v t m e =
    let bad = bad_day q.day t in
    let old = not_after (days_of (taken_of v q.taken)) t in
    let s = choice_zero (no_living q v) 4 (when bad || old then 7 else m) e in
    let a = or_neither (ltb 7 v || not (is_enrolled q v)) (is_retired (taken_of v q.taken)) s.0 in
    let b = or_neither (ltb 7 v) (not (is_enrolled q v)) a.0 in
    let c = or_neither bad old (choice_zero (bad || old) 6 m s.1).0 in (
      ((good-day q.day t).0 c.0).0,
      eqb-false (retention_at q v) 0 (not-true (eqb (retention_at q v) 0) (not-false (is_enrolled q v) b.1)),
      a.1,
    )

backup-allowed : (q : Plain) (v t : ℕ) (list : List ℕ) → backup_number q v t list ≡ 0
    → (q.day ≤ t) × (retention_at q v ≡ 0 → ⊥) × (is_retired (taken_of v q.taken) ≡ false)
unfolding backup_number
backup-allowed q v t list e = living-allowed q v t _ e

retire-allowed : (q : Plain) (v t : ℕ) → retire_number q v t ≡ 0
    → (q.day ≤ t) × (retention_at q v ≡ 0 → ⊥) × (is_retired (taken_of v q.taken) ≡ false)
unfolding retire_number
retire-allowed q v t e = living-allowed q v t _ e

-- ---- one call

module _ {l d : ℕ} {q : Plain} {h : ℕ → History} (a : AllRecall l d q h) where
  -- a call that notes nothing
  still_recalls : (h' : ℕ → History) → ((v : ℕ) → h v ≡ h' v) → AllRecall l d q h'
  still_recalls h' e = record {
    logical = a.logical;
    day = a.day;
    room = a.room;
    volume_count = a.volume_count;
    each = λ v. subst (λ (x : History). Recalls l d q.blocks (retention_at q v) (taken_of v q.taken) x) (e v) (a.each v);
  }

  -- a test that no answer passes
  not_noted : (v : ℕ) (f : ℕ → History) (t : Bool) → t ≡ false → AllRecall l d q (λ w. when eqb v w && t then f w else h w)
  not_noted v f t e = still_recalls (λ w. when eqb v w && t then f w else h w) (λ w. rw (e, and_false (eqb v w)))

  enrol-step : (v r : ℕ) → AllRecall l d (plain q (enrol v r)).next (λ w. noted w (h w) (enrol v r) (plain q (enrol v r)).answer)
  unfolding plain step_of Plain.enrol
  enrol-step v r = go (enrol_number q v r) refl
    where
      after : Outcome Plain
      after = accepted (with_retention v r q)

      go : (n : ℕ) → enrol_number q v r ≡ n
          → AllRecall l d (step_of q (and_then (unless n after) store_enrolled)).next
          (λ w. noted w (h w) (enrol v r) (step_of q (and_then (unless n after) store_enrolled)).answer)
      go zero e = let b = enrol-allowed q v r e in enrol_recalls a v r b.0 b.1
      go (suc k) e = not_noted v (λ w. with_enrol r (h w)) (eqb (suc k) 0) (eqb-suc-zero k)

  collect-step : (t : ℕ) → AllRecall l (day_noted d (collect t) (plain q (collect t)).answer) (plain q (collect t)).next h
  unfolding plain step_of Plain.collect
  collect-step t = go (collect_number q t) refl
    where
      go : (n : ℕ) → collect_number q t ≡ n
          → AllRecall l (day_noted d (collect t) (step_of q (and_then (unless n (accepted (collected q t))) store_collected)).answer)
          (step_of q (and_then (unless n (accepted (collected q t))) store_collected)).next h
      go zero e = collect_recalls a t (rw (← a.day) (collect-allowed q t e))
      go (suc k) e = rw (eqb-suc-zero k) a

  retire-step : (v t : ℕ)
      → AllRecall l (day_noted d (retire v t) (plain q (retire v t)).answer) (plain q (retire v t)).next
      (λ w. noted w (h w) (retire v t) (plain q (retire v t)).answer)
  unfolding plain step_of PlainRetire.retire
  retire-step v t = go (retire_number q v t) refl
    where
      after : Outcome PlainRetired
      after = accepted (retired q v t)

      go : (n : ℕ) → retire_number q v t ≡ n
          → AllRecall l (day_noted d (retire v t) (step_of q (and_then (unless n after) store_retired)).answer)
          (step_of q (and_then (unless n after) store_retired)).next
          (λ w. noted w (h w) (retire v t) (step_of q (and_then (unless n after) store_retired)).answer)
      go zero e = let b = retire-allowed q v t e in retire_recalls a v t (rw (← a.day) b.0) b.1 b.2
      go (suc k) e = rw (eqb-suc-zero k) (not_noted v (λ w. with_left t (h w)) false refl)

  module _ (v t : ℕ) (list : List ℕ) where
    abbrev Backs : Outcome PlainBacked → Type 0
    Backs o =
        AllRecall l (day_noted d (backup v t list) (step_of q (and_then o store_backed)).answer) (step_of q (and_then o store_backed)).next
        (λ w. noted w (h w) (backup v t list) (step_of q (and_then o store_backed)).answer)

    -- 0 refuses nothing
    refused-step : (k : ℕ) → (k ≡ 0 → ⊥) → Backs (refused k)
    unfolding step_of
    refused-step k n = rw (ne_eqb k 0 n) (not_noted v (λ w. with_sent (record { day = t; changes = changes list }) (h w)) false refl)

    run_step : backup_number q v t list ≡ 0 → (o : Outcome PlainWork) → run_changes (changes list) (begun q v) ≡ o
        → Backs (and_then o (λ w. accepted (closed q v t (change_count list) w)))
    unfolding step_of
    run_step e (refused k) f = refused-step k (not_refused k (rw f at (changes_proper (changes list) (begun q v))))
    run_step e (accepted w) f =
        let b = backup-allowed q v t list e in
        backup_recalls a v b.2 t (change_count list) (changes list) w (rw (← a.day) b.0) b.1 f

    abbrev ran : Outcome PlainWork
    ran = run_changes (changes list) (begun q v)

    backup-step : Backs (PlainBackup.backup q v t list)
    unfolding PlainBackup.backup
    backup-step = go (backup_number q v t list) refl
      where
        go : (n : ℕ) → backup_number q v t list ≡ n → Backs (unless n (and_then ran (λ w. accepted (closed q v t (change_count list) w))))
        go zero e = run_step e ran refl
        go (suc k) e = refused-step (suc k) (λ z. omega arith)

  pub call_recalls : (c : Call)
      → AllRecall l (day_noted d c (plain q c).answer) (plain q c).next (λ v. noted v (h v) c (plain q c).answer)
  unfolding plain
  call_recalls (enrol v r) = enrol-step v r
  call_recalls (backup v t list) = backup-step v t list
  call_recalls (collect t) = collect-step t
  call_recalls (retire v t) = retire-step v t
  call_recalls (read v k lbn) = a
  call_recalls audit = a

-- ---- a list of calls
pub list_recalls : {l d : ℕ} {q : Plain} {h : ℕ → History} → AllRecall l d q h → (cs : List Call)
    → AllRecall l (day_from d cs (answers_of plain q cs)) (end_of plain q cs) (λ v. history_from v (h v) cs (answers_of plain q cs))
list_recalls a [] = a
list_recalls {l = l} {d = d} {q = q} {h = h} a (c ∷ cs) =
    list_recalls {d = day_noted d c (plain q c).answer} (call_recalls a c) cs
