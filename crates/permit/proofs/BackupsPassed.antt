-- Laws of specs/Backups.antt.
-- How many slots a volume has, the last one's day, and whether it is retired, as a walk over the slots finds them.
use Prim.Native.Nat.{ℕ, ◌+◌, ◌≤◌, ◌<◌}
use mathlib.Core.Path.{◌≡◌, refl, sym, ◌∙◌}
use mathlib.Core.Bool.{Bool, true, false, ◌||◌}
use mathlib.Core.List.{List, map}
use native.Mathlib.Omega.{arith}
use lib.ListN.{length, length-map}
use Rattle.words.specs.Lists.{last_of, some_of}
use Rattle.book.specs.Book.{Book, slot_at}
use Rattle.journal.specs.Struct.{SlotIs}
use Rattle.journal.specs.declared.slot.Slot.{Slot}
use Rattle.model.specs.Journal.{Backup, slots_of, days, is_retired}
use Rattle.claims.proofs.kept.JournalAtLaws.{day-at, from_start, from-own, from-other, from_end}
use Rattle.claims.proofs.kept.RetireAt.{retire-at}
use Rattle.model.specs.JournalAt.{own_from}
use Rattle.permit.specs.Backups.{BackupsAre}

abbrev days_of : List Backup → List ℕ
days_of bs = map (λ (b : Backup). b.day) bs

abbrev retires : Backup → Bool
retires b = b.retire

or_assoc : (a b c : Bool) → (a || (b || c)) ≡ ((a || b) || c)
or_assoc true b c = refl
or_assoc false b c = refl

or-none : (a : Bool) → (a || false) ≡ a
or-none true = refl
or-none false = refl

-- before slot q, `count` slots of the volume were passed; `last` is the last one's day, and one of them retired the volume or not
pub record Passed (x : Book) (v q count last : ℕ) (out : Bool) : Type 0 where
  pub number : length (days x v) ≡ count + length (own_from x v q)
  pub newest : last_of 0 (days x v) ≡ last_of last (days_of (own_from x v q))
  pub retired : is_retired x v ≡ (out || some_of retires (own_from x v q))

module _ (x : Book) (v : ℕ) where
  pub passed_none : Passed x v 0 0 0 false
  unfolding days is_retired
  passed_none =
      let e = from_start x v in
      record { number = rw (e, length-map (slots_of x v) (λ b. b.day)) (omega arith); newest = rw e; retired = rw e }

  module _ (q count last : ℕ) (out : Bool) (p : Passed x v q count last out) where
    pub passed-own : (t : Slot) → SlotIs (slot_at x.slots q) t → q < length x.slots → t.volume ≡ v
        → Passed x v (q + 1) (count + 1) t.day (out || t.retire)
    passed-own t s h e =
        let own = from-own x v q h (sym s.volume ∙ e) in
        record {
          number = p.number ∙ rw own (omega arith);
          newest = p.newest ∙ rw own (rw (day-at x q, ← s.day));
          retired = p.retired ∙ rw own (rw (retire-at x q, ← s.retire) (or_assoc out t.retire (some_of retires (own_from x v (q + 1)))));
        }

    pub passed-other : (t : Slot) → SlotIs (slot_at x.slots q) t → q < length x.slots → (t.volume ≡ v → ⊥)
        → Passed x v (q + 1) count last out
    passed-other t s h n =
        let other = from-other x v q h (λ e. n (s.volume ∙ e)) in
        record { number = p.number ∙ rw other; newest = p.newest ∙ rw other; retired = p.retired ∙ rw other }

    pub passed-all : length x.slots ≤ q → BackupsAre x v (record { count = count; last = last; retired = out })
    passed-all h =
        let end = from_end x v q h in
        record { count = sym (p.number ∙ rw end (omega arith)); last = sym (p.newest ∙ rw end); retired = sym (p.retired ∙ rw end (or-none out)) }
