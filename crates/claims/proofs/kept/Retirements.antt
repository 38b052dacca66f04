-- A volume's slots: its backups, and behind them its retirement, if it is retired (document 02, K6: "no slot of the volume follows it").
use Prim.Native.Nat.{ℕ, zero, suc, ◌≤◌, ◌<◌}
use mathlib.Core.Path.{◌≡◌, refl, sym, ap, ◌∙◌}
use mathlib.Core.Bool.{Bool, true, false, not}
use mathlib.Core.List.{List, [], ◌∷◌}
use native.Mathlib.Omega.{arith}
use lib.Dec.{eqb}
use lib.ListN.{length, get_or, take, drop, length-map}
use lib.Seq.{drop-length}
use borrow.Author.Tests.{eqb-true, ne_eqb}
use Rattle.words.specs.Choice.{when◌then◌else◌}
use Rattle.words.proofs.ChoiceLaws.{and_true, not_both}
use Rattle.words.proofs.Counting.{count_most}
use Rattle.words.proofs.Tests.{or_neither}
use Rattle.words.specs.Lists.{all, some_of, count_of}
use Rattle.book.specs.Book.{Slot, Rec, Book, cell_at}
use Rattle.book.specs.Form.{later_ok, days_ok}
use Rattle.book.proofs.Conditions.{later-facts}
use Rattle.model.specs.Journal.{Backup, last_day, journal_of, journal, slots_in, slots_of, backup_count, days, is_retired}
use Rattle.model.specs.JournalAt.{no_backup}
use Rattle.model.specs.Read.{records_of, image}
use Rattle.model.specs.JournalAt.{first_before}

unfoldable pub RetiresLast : List Backup → Type 0
RetiresLast [] = Unit {0}
RetiresLast (b ∷ bs) = (b.retire ≡ true → bs ≡ []) × RetiresLast bs

abbrev pub is_backup : Backup → Bool
is_backup b = not b.retire

-- ---- how many of them are backups

count_almost : (bs : List Backup) → RetiresLast bs → length bs ≤ suc (count_of is_backup bs)
unfolding RetiresLast
count_almost [] h = omega arith
count_almost (b ∷ bs) h = go b.retire h.0 (count_almost bs h.1)
  where
    go : (t : Bool) → (t ≡ true → bs ≡ []) → length bs ≤ suc (count_of is_backup bs)
        → suc (length bs) ≤ suc (when not t then suc (count_of is_backup bs) else count_of is_backup bs)
    go true e ih = let none : length bs ≡ 0 = ap length (e refl) in omega arith
    go false e ih = omega arith

-- the slot with number k + 1 is a backup
backup-here : (bs : List Backup) (k : ℕ) → RetiresLast bs → k < count_of is_backup bs → (get_or bs k no_backup).retire ≡ false
unfolding RetiresLast
backup-here [] k h l = absurd (omega arith)
backup-here (b ∷ bs) k h l = go b.retire k refl h.0 l (λ j i. backup-here bs j h.1 i)
  where
    go : (t : Bool) (k : ℕ) → b.retire ≡ t → (t ≡ true → bs ≡ []) → k < (when not t then suc (count_of is_backup bs) else count_of is_backup bs)
        → ((j : ℕ) → j < count_of is_backup bs → (get_or bs j no_backup).retire ≡ false) → (get_or (b ∷ bs) k no_backup).retire ≡ false
    go true k q e l ih = let none : count_of is_backup bs ≡ 0 = ap (λ (cs : List Backup). count_of is_backup cs) (e refl) in absurd (omega arith)
    go false zero q e l ih = q
    go false (suc k) q e l ih = ih k (omega arith)

-- behind the backups stands the retirement
retire-here : (bs : List Backup) (k : ℕ) → RetiresLast bs → count_of is_backup bs ≤ k → k < length bs → (get_or bs k no_backup).retire ≡ true
unfolding RetiresLast
retire-here [] k e l h = absurd (omega arith)
retire-here (b ∷ bs) k e l h = go b.retire k refl e.0 l h (λ j i. retire-here bs j e.1 i)
  where
    go : (t : Bool) (k : ℕ) → b.retire ≡ t → (t ≡ true → bs ≡ [])
        → (when not t then suc (count_of is_backup bs) else count_of is_backup bs) ≤ k → k < suc (length bs)
        → ((j : ℕ) → count_of is_backup bs ≤ j → j < length bs → (get_or bs j no_backup).retire ≡ true) → (get_or (b ∷ bs) k no_backup).retire ≡ true
    go true zero q e l h ih = q
    go true (suc k) q e l h ih = let none : length bs ≡ 0 = ap length (e refl) in absurd (omega arith)
    go false zero q e l h ih = absurd (omega arith)
    go false (suc k) q e l h ih = ih k (omega arith) (omega arith)

-- all are, while the volume isn't retired
pub all-backups : (bs : List Backup) → some_of (λ (b : Backup). b.retire) bs ≡ false → count_of is_backup bs ≡ length bs
all-backups [] e = refl
all-backups (b ∷ bs) e =
    let w = or_neither b.retire (some_of (λ (b : Backup). b.retire) bs) e in
    rw w.0 (ap suc (all-backups bs w.1))

-- ---- a book in form

module _ (v : ℕ) where
  none_after : (t : Slot) (gone ts : List Slot) (rs : List Rec) → t.volume ≡ v → t.retire ≡ true → all (later_ok t) ts ≡ true
      → slots_in v (journal_of gone ts rs) ≡ []
  none_after t gone [] rs own out ok = refl
  none_after t gone (u ∷ ts) rs own out ok =
      let w = and_true (later_ok t u) (all (later_ok t) ts) ok in
      let f = later-facts t u w.0 in
      rw (ne_eqb u.volume v (λ e. not_both t.retire out (f.living (own ∙ sym e))))
      (none_after t (u ∷ gone) ts (drop u.number rs) own out w.1)

  pub retires_last : (gone ts : List Slot) (rs : List Rec) → days_ok ts ≡ true → RetiresLast (slots_in v (journal_of gone ts rs))
  unfolding RetiresLast
  retires_last gone [] rs ok = tt
  retires_last gone (t ∷ ts) rs ok =
      let w = and_true (all (later_ok t) ts) (days_ok ts) ok in
      go (eqb t.volume v) refl w.0 (retires_last (t ∷ gone) ts (drop t.number rs) w.1)
    where
      bs : List Backup
      bs = slots_in v (journal_of (t ∷ gone) ts (drop t.number rs))

      b : Backup
      b = record { volume = t.volume; day = t.day; retire = t.retire; prev = last_day t.volume gone; records = take t.number rs }

      go : (own : Bool) → eqb t.volume v ≡ own → all (later_ok t) ts ≡ true → RetiresLast bs → RetiresLast (when own then b ∷ bs else bs)
      go true e k ih = (λ r. none_after t (t ∷ gone) ts (drop t.number rs) (eqb-true t.volume v e) r k, ih)
      go false e k ih = ih

module _ (x : Book) (v : ℕ) where
  pub slots_end : days_ok x.slots ≡ true → RetiresLast (slots_of x v)
  unfolding slots_of journal
  slots_end ok = retires_last v [] x.slots x.records ok

  slot-count : length (days x v) ≡ length (slots_of x v)
  unfolding days
  slot-count = length-map (slots_of x v) (λ b. b.day)

  -- no more backups than slots
  pub count-within : backup_count x v ≤ length (days x v)
  unfolding backup_count
  count-within = omega (arith, slot-count, count_most is_backup (slots_of x v))

  -- as many, while the volume isn't retired
  pub count-living : is_retired x v ≡ false → backup_count x v ≡ length (days x v)
  unfolding backup_count is_retired
  count-living e = all-backups (slots_of x v) e ∙ sym slot-count

  module _ (ends : RetiresLast (slots_of x v)) where
    -- at most one slot has no number
    pub count_next : length (days x v) ≤ suc (backup_count x v)
    unfolding backup_count
    count_next = omega (arith, slot-count, count_almost (slots_of x v) ends)

    pub number-backup : (k : ℕ) → k < backup_count x v → (get_or (slots_of x v) k no_backup).retire ≡ false
    unfolding backup_count
    number-backup k h = backup-here (slots_of x v) k ends h

    pub no_number : (k : ℕ) → backup_count x v ≤ k → k < length (days x v) → (get_or (slots_of x v) k no_backup).retire ≡ true
    unfolding backup_count
    no_number k h l = retire-here (slots_of x v) k ends h (omega (arith, slot-count))

  -- after the last slot stands the current map
  pub image-end : (k lbn : ℕ) → length (days x v) ≡ k → image x v k lbn ≡ cell_at x.maps v lbn
  unfolding image
  image-end k lbn e =
      ap (λ (n : ℕ). first_before lbn (records_of (drop n (slots_of x v))) (cell_at x.maps v lbn)) (sym e ∙ slot-count)
      ∙ ap (λ (bs : List Backup). first_before lbn (records_of bs) (cell_at x.maps v lbn)) (drop-length (slots_of x v))
