-- Slots in form stay in form on a later day, and with one slot more.
use Prim.Native.Nat.{ℕ, suc, ◌+◌, ◌≤◌, ◌<◌}
use mathlib.Core.Path.{◌≡◌, refl, ap, ◌∙◌}
use mathlib.Core.Bool.{Bool, true, false, not, ◌&&◌, ◌||◌}
use mathlib.Core.List.{List, [], ◌∷◌, ◌++◌, map}
use native.Mathlib.Omega.{arith}
use lib.Dec.{leb, ltb, eqb}
use lib.ListN.{length, take, drop, length-drop}
use lib.Seq.{take-length, take-append-le, drop-append-le}
use borrow.Author.Tests.{leb-true, eqb-true, le-leb, lt-ltb, eq-eqb}
use Rattle.words.proofs.Appends.{all_append}
use Rattle.words.specs.Choice.{when◌then◌else◌}
use Rattle.words.proofs.ChoiceLaws.{and_true, true_and}
use Rattle.words.specs.Lists.{all, some_of, those, last_of}
use Rattle.words.proofs.Tests.{or_neither}
use Rattle.words.proofs.Mapped.{all_map, last-above}
use Rattle.words.proofs.Places.{all-place, place-all, all-those, all_weaker}
use Rattle.book.specs.Book.{Slot, Rec, Book, no_slot, slot_at}
use Rattle.book.specs.Form.{after_ok, afters_ok, enrolled, slot_ok, later_ok, days_ok, pairs_ok}
use Rattle.book.proofs.Conditions.{slot-facts, later-facts}
use Rattle.claims.proofs.kept.JournalLaws.{pairs_end}
use Rattle.model.specs.Days.{not_after}
use Rattle.claims.proofs.kept.DayLaws.{later-backup}
use Rattle.model.specs.Journal.{Backup, last_day, journal_of, journal, slots_in, slots_of, days, is_retired}

pub slot_ok_lem : (x : Book) (t : Slot) → enrolled x t.volume ≡ true → t.day ≤ x.day → (leb 3 x.sizes.layout || not t.retire) ≡ true
    → slot_ok x t ≡ true
unfolding slot_ok
slot_ok_lem x t on low may = rw (on, le-leb t.day x.day low) may

-- where no volume leaves, the header's day doesn't fall and the layout stays
pub slots_kept : (x y : Book) (ts : List Slot) → ((v : ℕ) → enrolled x v ≡ true → enrolled y v ≡ true) → x.day ≤ y.day
    → y.sizes.layout ≡ x.sizes.layout → all (slot_ok x) ts ≡ true → all (slot_ok y) ts ≡ true
unfolding slot_ok
slots_kept x y ts on late same e =
    all_weaker (slot_ok x) (slot_ok y) ts
    (λ t k.
    let w = slot-facts x t k in
    let may = (and_true (enrolled x t.volume && leb t.day x.day) (leb 3 x.sizes.layout || not t.retire) k).1 in
    slot_ok_lem y t (on t.volume w.0) (omega (arith, leb-true t.day x.day w.1)) (rw same may))
    e

-- ---- days

pub days-more : (ts : List Slot) (s : Slot) → days_ok ts ≡ true → all (λ t. later_ok t s) ts ≡ true → days_ok (ts ++ (s ∷ [])) ≡ true
days-more [] s e k = refl
days-more (t ∷ ts) s e k =
    let w = and_true (all (later_ok t) ts) (days_ok ts) e in
    let u = and_true (later_ok t s) (all (λ t. later_ok t s) ts) k in
    true_and (all (later_ok t) (ts ++ (s ∷ []))) (days_ok (ts ++ (s ∷ [])))
    (all_append (later_ok t) ts (s ∷ []) ∙ rw (w.0, u.0))
    (days-more ts s w.1 u.1)

module _ (v : ℕ) where
  -- the days of a volume's slots
  abbrev pub days_in : List Slot → List ℕ
  days_in ts = map (λ (t : Slot). t.day) (those (λ (t : Slot). eqb t.volume v) ts)

  pub days-journal : (gone ts : List Slot) (rs : List Rec) → map (λ (b : Backup). b.day) (slots_in v (journal_of gone ts rs)) ≡ days_in ts
  days-journal gone [] rs = refl
  days-journal gone (t ∷ ts) rs = go (eqb t.volume v) (days-journal (t ∷ gone) ts (drop t.number rs))
    where
      bs : List Backup
      bs = slots_in v (journal_of (t ∷ gone) ts (drop t.number rs))

      b : Backup
      b = record { volume = t.volume; day = t.day; retire = t.retire; prev = last_day t.volume gone; records = take t.number rs }

      us : List Slot
      us = those (λ (u : Slot). eqb u.volume v) ts

      go : (s : Bool) → map (λ (b : Backup). b.day) bs ≡ days_in ts
          → map (λ (b : Backup). b.day) (when s then b ∷ bs else bs)
          ≡ map (λ (u : Slot). u.day) (when s then t ∷ us else us)
      go true ih = ap (λ (ds : List ℕ). t.day ∷ ds) ih
      go false ih = ih

  -- later slots have no earlier day
  pub days-above : (t : Slot) (ts : List Slot) → all (later_ok t) ts ≡ true → all (leb t.day) (days_in ts) ≡ true
  days-above t ts e =
      all_map (leb t.day) (λ (u : Slot). u.day) (those (λ (u : Slot). eqb u.volume v) ts)
      ∙ all-those (λ (u : Slot). leb t.day u.day) (λ (u : Slot). eqb u.volume v) ts
      (all_weaker (later_ok t) (λ (u : Slot). leb t.day u.day) ts
      (λ u k. le-leb t.day u.day (later-facts t u k).day) e)

  -- a slot of another volume, or of an earlier day
  abbrev is_before : ℕ → Slot → Bool
  is_before d t = not (eqb t.volume v) || ltb t.day d

  -- a day after a volume's last is after all its days
  before-all : (e d : ℕ) (ts : List Slot) → days_ok ts ≡ true → (0 < length (days_in ts) → last_of e (days_in ts) < d)
      → all (is_before d) ts ≡ true
  before-all e d [] ok k = refl
  before-all e d (t ∷ ts) ok k = go (eqb t.volume v) k (λ e k. before-all e d ts w.1 k)
    where
      w : (all (later_ok t) ts ≡ true) × (days_ok ts ≡ true)
      w = and_true (all (later_ok t) ts) (days_ok ts) ok

      -- the days with the first slot's, by whether it is the volume's
      own : Bool → List ℕ
      own b =
          map (λ (u : Slot). u.day) (when b then t ∷ those (λ (u : Slot). eqb u.volume v) ts
          else those (λ (u : Slot). eqb u.volume v) ts)

      go : (b : Bool) → (0 < length (own b) → last_of e (own b) < d)
          → ((e : ℕ) → (0 < length (days_in ts) → last_of e (days_in ts) < d) → all (is_before d) ts ≡ true)
          → ((not b || ltb t.day d) && all (is_before d) ts) ≡ true
      go true k ih =
          let l : last_of t.day (days_in ts) < d = k (omega arith) in
          true_and (ltb t.day d) (all (is_before d) ts)
          (lt-ltb t.day d (omega (arith, last-above t.day t.day (days_in ts) (omega arith) (days-above t ts w.0))))
          (ih t.day (λ h. l))
      go false k ih = ih e k

  -- a slot of another volume, or of one that goes on
  abbrev goes_on : Slot → Bool
  goes_on t = not (eqb t.volume v) || not t.retire

  -- a volume that isn't retired has no retire slot
  goes-all : (gone ts : List Slot) (rs : List Rec) → some_of (λ (b : Backup). b.retire) (slots_in v (journal_of gone ts rs)) ≡ false
      → all goes_on ts ≡ true
  goes-all gone [] rs e = refl
  goes-all gone (t ∷ ts) rs e = go (eqb t.volume v) e (goes-all (t ∷ gone) ts (drop t.number rs))
    where
      bs : List Backup
      bs = slots_in v (journal_of (t ∷ gone) ts (drop t.number rs))

      b : Backup
      b = record { volume = t.volume; day = t.day; retire = t.retire; prev = last_day t.volume gone; records = take t.number rs }

      go : (s : Bool) → some_of (λ (b : Backup). b.retire) (when s then b ∷ bs else bs) ≡ false
          → (some_of (λ (b : Backup). b.retire) bs ≡ false → all goes_on ts ≡ true) → ((not s || not t.retire) && all goes_on ts) ≡ true
      go true e ih = let w = or_neither t.retire (some_of (λ (b : Backup). b.retire) bs) e in rw w.0 (ih w.1)
      go false e ih = ih e

-- numbers 5 and 7 passed: the volume isn't retired; the day isn't below the header's, and is above the volume's last backup
module _ (x : Book) (s : Slot) (up : days_ok x.slots ≡ true) (living : is_retired x s.volume ≡ false)
    (after : not_after (days x s.volume) s.day ≡ false) where
  last-before : 0 < length (days_in s.volume x.slots) → last_of 0 (days_in s.volume x.slots) < s.day
  unfolding days slots_of journal
  last-before h =
      (later-backup (days_in s.volume x.slots) s.day h).0
      (rw (days-journal s.volume [] x.slots x.records) at after)

  pub slots-before : all (slot_ok x) x.slots ≡ true → x.day ≤ s.day → all (λ t. later_ok t s) x.slots ≡ true
  unfolding later_ok is_retired slots_of journal
  slots-before on late =
      place-all (λ t. later_ok t s) x.slots no_slot (λ i h.
      let t = slot_at x.slots i in
      let w = slot-facts x t (all-place (slot_ok x) x.slots no_slot i on h) in
      let d = leb-true t.day x.day w.1 in
      true_and (leb t.day s.day) (not (eqb t.volume s.volume) || (ltb t.day s.day && not t.retire))
      (le-leb t.day s.day (omega arith))
      (both (eqb t.volume s.volume) (ltb t.day s.day) (not t.retire)
      (all-place (is_before s.volume s.day) x.slots no_slot i (before-all s.volume 0 s.day x.slots up last-before) h)
      (all-place (goes_on s.volume) x.slots no_slot i (goes-all s.volume [] x.slots x.records living) h)))
    where
      both : (own a b : Bool) → (not own || a) ≡ true → (not own || b) ≡ true → (not own || (a && b)) ≡ true
      both true a b e f = true_and a b e f
      both false a b e f = refl

-- ---- afters

-- where the slots' pairs end at the last record
pub afters-more : (at : ℕ) (ts : List Slot) (rs : List Rec) (s : Slot) (qs : List Rec) → pairs_ok at ts (at + length rs) ≡ true
    → length qs ≡ s.number → afters_ok ts rs ≡ true → all (after_ok s.retire) qs ≡ true → afters_ok (ts ++ (s ∷ [])) (rs ++ qs) ≡ true
afters-more at [] [] s qs e f g h = rw (← f, take-length qs) (rw h)
afters-more at [] (r ∷ rs) s qs e f g h = absurd (omega (arith, eqb-true at (at + suc (length rs)) e))
afters-more at (t ∷ ts) rs s qs e f g h =
    let ok = (and_true (eqb t.first at) (pairs_ok (at + t.number) ts (at + length rs)) e).1 in
    let end = pairs_end (at + t.number) ts (at + length rs) ok in
    let k : t.number ≤ length rs = omega arith in
    let left : at + length rs ≡ at + t.number + length (drop t.number rs) = rw length-drop (omega arith) in
    let w = and_true (all (after_ok t.retire) (take t.number rs)) (afters_ok ts (drop t.number rs)) g in
    rw (take-append-le t.number rs qs k, drop-append-le t.number rs qs k, w.0)
    (afters-more (at + t.number) ts (drop t.number rs) s qs (rw left at ok) f w.1 h)

-- ---- pairs

pub pairs-more : (at : ℕ) (ts : List Slot) (u : ℕ) (s : Slot) → pairs_ok at ts u ≡ true → s.first ≡ u
    → pairs_ok at (ts ++ (s ∷ [])) (u + s.number) ≡ true
pairs-more at [] u s e f =
    let k = eqb-true at u e in
    true_and (eqb s.first at) (eqb (at + s.number) (u + s.number))
    (eq-eqb s.first at (omega arith))
    (eq-eqb (at + s.number) (u + s.number) (omega arith))
pairs-more at (t ∷ ts) u s e f =
    let w = and_true (eqb t.first at) (pairs_ok (at + t.number) ts u) e in
    true_and (eqb t.first at) (pairs_ok (at + t.number) (ts ++ (s ∷ [])) (u + s.number))
    w.0
    (pairs-more (at + t.number) ts u s w.1 f)
