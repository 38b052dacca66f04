-- A volume's backups and its retirement, slot by slot.
use Prim.Native.Nat.{ℕ, ◌+◌, ◌≤◌, ◌<◌}
use mathlib.Core.Path.{◌≡◌, refl, sym, ap, ◌∙◌}
use mathlib.Core.Bool.{Bool, true, false, not, ◌&&◌, true≢false}
use mathlib.Core.List.{◌∷◌}
use native.Mathlib.Omega.{arith}
use lib.Dec.{eqb}
use lib.ListN.{length}
use borrow.Author.Tests.{eqb-true, eqb-false}
use Rattle.words.specs.Lists.{count_of}
use Rattle.words.proofs.ChoiceLaws.{and_true}
use Rattle.book.specs.Book.{Book, slot_at}
use Rattle.journal.specs.Struct.{SlotIs}
use Rattle.journal.specs.declared.slot.Slot.{Slot}
use Rattle.model.specs.Journal.{backup_count}
use Rattle.model.specs.JournalAt.{backup_at, own_from}
use Rattle.model.specs.Views.{retired_on}
use Rattle.claims.proofs.kept.JournalAtLaws.{day-at, from_start, from-own, from-other, from_end}
use Rattle.claims.proofs.kept.RetireAt.{retire-at}
use Rattle.claims.proofs.kept.Retirements.{is_backup}

-- so many of the volume's backups stand before slot q
pub record Passed (x : Book) (v q count : ℕ) : Type 0 where
  pub number : backup_count x v ≡ count + count_of is_backup (own_from x v q)
  pub few : count ≤ q

module _ (x : Book) (v : ℕ) where
  pub passed_none : Passed x v 0 0
  unfolding backup_count
  passed_none = record { number = rw (from_start x v) (omega arith); few = omega arith }

  module _ (q : ℕ) (t : Slot) (s : SlotIs (slot_at x.slots q) t) (h : q < length x.slots) where
    own : t.volume ≡ v → own_from x v q ≡ backup_at x q ∷ own_from x v (q + 1)
    own e = from-own x v q h (sym s.volume ∙ e)

    other : (t.volume ≡ v → ⊥) → own_from x v q ≡ own_from x v (q + 1)
    other n = from-other x v q h (λ e. n (s.volume ∙ e))

    retires : (backup_at x q).retire ≡ t.retire
    retires = retire-at x q ∙ sym s.retire

    module _ (count : ℕ) (p : Passed x v q count) where
      -- one of the volume's backups, or another slot: the volume's retirement has no number
      pub passed-own : (eqb t.volume v && not t.retire) ≡ true → Passed x v (q + 1) (count + 1)
      passed-own e =
          let w = and_true (eqb t.volume v) (not t.retire) e in
          let n = rw (own (eqb-true t.volume v w.0), retires, w.1) at p.number in
          record { number = omega arith; few = omega (arith, p.few) }

      pub passed-other : (eqb t.volume v && not t.retire) ≡ false → Passed x v (q + 1) count
      passed-other e = record { number = p.number ∙ ap (λ (k : ℕ). count + k) (go (eqb t.volume v) refl t.retire refl e); few = omega (arith, p.few) }
        where
          go : (a : Bool) → eqb t.volume v ≡ a → (b : Bool) → t.retire ≡ b → (a && not b) ≡ false
              → count_of is_backup (own_from x v q) ≡ count_of is_backup (own_from x v (q + 1))
          go true a true b e = rw (own (eqb-true t.volume v a), retires, b)
          go true a false b e = absurd (true≢false e)
          go false a r b e = rw (other (eqb-false t.volume v a))

    -- ---- the day of its retirement

    pub retired-here : (eqb t.volume v && t.retire) ≡ true → t.day ≡ retired_on (own_from x v q)
    retired-here e =
        let w = and_true (eqb t.volume v) t.retire e in
        rw (own (eqb-true t.volume v w.0), retires, w.1) (s.day ∙ sym (day-at x q))

    pub retired-later : (eqb t.volume v && t.retire) ≡ false → retired_on (own_from x v q) ≡ retired_on (own_from x v (q + 1))
    retired-later e = go (eqb t.volume v) refl t.retire refl e
      where
        go : (a : Bool) → eqb t.volume v ≡ a → (b : Bool) → t.retire ≡ b → (a && b) ≡ false
            → retired_on (own_from x v q) ≡ retired_on (own_from x v (q + 1))
        go true a true b e = absurd (true≢false e)
        go true a false b e = rw (own (eqb-true t.volume v a), retires, b)
        go false a r b e = rw (other (eqb-false t.volume v a))

  pub passed-all : (q count : ℕ) → Passed x v q count → length x.slots ≤ q → count ≡ backup_count x v
  passed-all q count p h = let n = rw (from_end x v q h) at p.number in omega arith

  pub retired-never : (q : ℕ) → length x.slots ≤ q → 65535 ≡ retired_on (own_from x v q)
  retired-never q h = rw (from_end x v q h)
