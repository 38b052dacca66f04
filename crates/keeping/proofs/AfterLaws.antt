-- Laws of specs/After.antt.
-- A volume's slots after its k-th, as a walk over the slots finds them, and whether the backup in that one is kept.
use Prim.Native.Nat.{ℕ, zero, suc, ◌+◌, ◌-◌, ◌≤◌, ◌<◌}
use mathlib.Core.Path.{◌≡◌, refl, sym, ap, ◌∙◌}
use mathlib.Core.Bool.{Bool, true, false}
use mathlib.Core.List.{List, [], ◌∷◌, map}
use mathlib.Core.Logic.{◌⊎◌, inl, inr}
use native.Mathlib.Numerals.{add-one}
use native.Mathlib.Omega.{arith}
use lib.Dec.{leb}
use lib.ListN.{length, get_or, drop, length-map, drop_of_length-le}
use lib.Seq.{drop-drop}
use borrow.Author.Tests.{le-leb, lt-leb}
use Rattle.std.proofs.Common.{Ok, Err}
use Rattle.words.proofs.Ranges.{below_or_not}
use Rattle.book.specs.Book.{Book, slot_at}
use Rattle.journal.specs.Struct.{SlotIs}
use Rattle.journal.specs.declared.slot.Slot.{Slot}
use Rattle.model.specs.Days.{kept_by, kept}
use Rattle.model.specs.Journal.{Backup, slots_of, days}
use Rattle.model.specs.JournalAt.{no_backup, backup_at, own_from}
use Rattle.claims.proofs.kept.JournalAtLaws.{day-at, from_start, from-own, from-other, from_end}
use Rattle.claims.proofs.kept.RetireAt.{retire-at}
use Rattle.keeping.specs.declared.After.{After}
use Rattle.keeping.specs.After.{KthIs, AfterIs, kept_from}

abbrev day_of : Backup → ℕ
day_of b = b.day

-- before slot q all but `left` of k slots of the volume were passed, the last of them of day t; it retires the volume or not
pub record Skipped (x : Book) (v k q left t : ℕ) (out : Bool) : Type 0 where
  pub few : left ≤ k
  pub number : length (days x v) + left ≡ k + length (own_from x v q)
  pub rest : (j : ℕ) → j + left ≡ k → drop j (slots_of x v) ≡ own_from x v q
  pub taken : (j : ℕ) → suc j + left ≡ k → t ≡ get_or (days x v) j 0
  pub retire : (j : ℕ) → suc j + left ≡ k → out ≡ (get_or (slots_of x v) j no_backup).retire

day-first : (bs : List Backup) (j : ℕ) → get_or (map day_of bs) j 0 ≡ get_or (map day_of (drop j bs)) 0 0
day-first bs zero = refl
day-first [] (suc j) = refl
day-first (b ∷ bs) (suc j) = day-first bs j

at_first : (bs : List Backup) (j : ℕ) → get_or bs j no_backup ≡ get_or (drop j bs) 0 no_backup
at_first bs zero = refl
at_first [] (suc j) = refl
at_first (b ∷ bs) (suc j) = at_first bs j

module _ (x : Book) (v k : ℕ) where
  pub skipped_none : Skipped x v k 0 k 0 false
  unfolding days
  skipped_none =
      let e = from_start x v in
      record {
        few = omega arith;
        number = rw (e, length-map (slots_of x v) day_of) (omega arith);
        rest = λ j h. let z : j ≡ 0 = omega arith in rw (e, z);
        taken = λ j h. absurd (omega arith);
        retire = λ j h. absurd (omega arith);
      }

  module _ (q left t : ℕ) (out : Bool) (p : Skipped x v k q left t out) where
    pub skipped_own : (s : Slot) → SlotIs (slot_at x.slots q) s → q < length x.slots → s.volume ≡ v → 0 < left
        → Skipped x v k (q + 1) (left - 1) s.day s.retire
    unfolding days
    skipped_own s i h e l =
        let n = rw own at p.number in
        record {
          few = let f = p.few in omega arith;
          number = omega arith;
          rest = later;
          taken = λ j f. sym (now j (omega arith));
          retire = λ j f. sym (here j (omega arith));
        }
      where
        own : own_from x v q ≡ backup_at x q ∷ own_from x v (q + 1)
        own = from-own x v q h (sym i.volume ∙ e)

        later : (j : ℕ) → j + (left - 1) ≡ k → drop j (slots_of x v) ≡ own_from x v (q + 1)
        later zero f = absurd (let g = p.few in omega arith)
        later (suc j) f =
            rw (← (add-one j), ← (drop-drop 1 j (slots_of x v))) (ap (drop 1) (p.rest j (omega arith) ∙ own))

        now : (j : ℕ) → j + left ≡ k → get_or (map day_of (slots_of x v)) j 0 ≡ s.day
        now j f =
            day-first (slots_of x v) j
            ∙ ap (λ (bs : List Backup). get_or (map day_of bs) 0 0) (p.rest j f ∙ own)
            ∙ day-at x q ∙ sym i.day

        here : (j : ℕ) → j + left ≡ k → (get_or (slots_of x v) j no_backup).retire ≡ s.retire
        here j f =
            ap (λ (b : Backup). b.retire) (at_first (slots_of x v) j)
            ∙ ap (λ (bs : List Backup). (get_or bs 0 no_backup).retire) (p.rest j f ∙ own)
            ∙ retire-at x q ∙ sym i.retire

    pub skipped_other : (s : Slot) → SlotIs (slot_at x.slots q) s → q < length x.slots → (s.volume ≡ v → ⊥)
        → Skipped x v k (q + 1) left t out
    skipped_other s i h n =
        let other = from-other x v q h (λ e. n (i.volume ∙ e)) in
        record {
          few = p.few;
          number = p.number ∙ rw other;
          rest = λ j f. p.rest j f ∙ other;
          taken = p.taken;
          retire = p.retire;
        }

    -- what is known where the walk ends
    taken-end : (j : ℕ) → suc j ≡ k → left ≡ 0 → t ≡ get_or (days x v) j 0
    taken-end j e z = p.taken j (omega arith)

    retire-end : (j : ℕ) → suc j ≡ k → left ≡ 0 → out ≡ (get_or (slots_of x v) j no_backup).retire
    retire-end j e z = p.retire j (omega arith)

    -- the volume's next slot, and none of the k left
    pub skipped_stop : (s : Slot) → SlotIs (slot_at x.slots q) s → s.volume ≡ v → left ≡ 0
        → AfterIs x v k (Ok (record { taken = t; retire = out; at = q }))
    skipped_stop s i e z =
        let n = p.number in
        record {
          enough = omega arith;
          taken = λ j f. taken-end j f z;
          retire = λ j f. retire-end j f z;
          later = p.rest k (omega arith);
          own = λ h. sym i.volume ∙ e;
        }

    -- no slot is left
    all_passed : length x.slots ≤ q → length (days x v) + left ≡ k
    all_passed h = let n = rw (from_end x v q h) at p.number in omega arith

    pub skipped_short : (used : ℕ) → used ≡ length x.slots → used ≤ q → 0 < left
        → AfterIs x v k (Err (record { missing = left; at = used }))
    unfolding days
    skipped_short used u h l =
        let n = all_passed (omega arith) in
        let m = length-map (slots_of x v) day_of in
        record {
          few = omega arith;
          missing = omega arith;
          later = drop_of_length-le (slots_of x v) {i = k} (omega arith) ∙ sym (from_end x v used (omega arith));
          own = λ i. absurd (omega arith);
        }

    pub skipped_end : (used : ℕ) → used ≡ length x.slots → used ≤ q → left ≡ 0
        → AfterIs x v k (Ok (record { taken = t; retire = out; at = used }))
    unfolding days
    skipped_end used u h z =
        let n = all_passed (omega arith) in
        let l = length-map (slots_of x v) day_of in
        record {
          enough = omega arith;
          taken = λ j f. taken-end j f z;
          retire = λ j f. retire-end j f z;
          later = drop_of_length-le (slots_of x v) {i = k} (omega arith) ∙ sym (from_end x v used (omega arith));
          own = λ i. absurd (omega arith);
        }

-- ---- kept

pub kept_newest : (x : Book) (t at r : ℕ) → length x.slots ≤ at → kept_from x t at r ≡ true
unfolding kept_from
kept_newest x t at r h = rw (le-leb (length x.slots) at h)

pub kept_older : (x : Book) (t at r : ℕ) → at < length x.slots → kept_from x t at r ≡ leb x.day (t + r)
unfolding kept_from
kept_older x t at r h = rw (lt-leb (length x.slots) at h)

-- by its own day and the days of the volume's slots from slot `at` on, where that slot is the volume's
pub kept_from_lem : (x : Book) (v t at r : ℕ) → (at < length x.slots → (slot_at x.slots at).volume ≡ v)
    → kept_by t (map day_of (own_from x v at)) r x.day ≡ kept_from x t at r
kept_from_lem x v t at r own = go (below_or_not at (length x.slots))
  where
    go : (at < length x.slots) ⊎ (length x.slots ≤ at)
        → kept_by t (map day_of (own_from x v at)) r x.day ≡ kept_from x t at r
    go (inl l) = rw (from-own x v at l (own l)) (sym (kept_older x t at r l))
    go (inr g) = rw (from_end x v at g) (sym (kept_newest x t at r g))

drop-map : {A B : Type 0} (f : A → B) (k : ℕ) (xs : List A) → drop k (map f xs) ≡ map f (drop k xs)
drop-map f zero xs = refl
drop-map f (suc k) [] = refl
drop-map f (suc k) (x ∷ xs) = drop-map f k xs

pub kept-after : (x : Book) (v k r : ℕ) (a : After) → (k ≡ 0 → ⊥) → KthIs x v k a
    → kept (days x v) r x.day k ≡ kept_from x a.taken a.at r
unfolding kept days
kept-after x v zero r a some h = absurd (some refl)
kept-after x v (suc k) r a some h =
    rw (drop-map day_of (suc k) (slots_of x v), h.later, ← (h.taken k refl)) (kept_from_lem x v a.taken a.at r h.own)
