-- What it says that none of numbers 5, 7, 9 and 10 refuses a retirement.
use Prim.Native.Nat.{ℕ, ◌+◌, ◌≤◌, ◌<◌}
use mathlib.Core.Path.{◌≡◌, refl}
use mathlib.Core.Bool.{Bool, true, false, ◌||◌}
use native.Mathlib.Omega.{arith}
use lib.Dec.{leb, ltb}
use lib.ListN.{length}
use borrow.Author.Tests.{leb-false, ltb-false}
use Rattle.words.specs.Choice.{when◌then◌else◌}
use Rattle.words.proofs.Tests.{or_neither}
use Rattle.book.specs.Book.{Book}
use Rattle.model.specs.Days.{bad_day, not_after}
use Rattle.model.specs.Journal.{days, is_retired, no_volume, no_living}
use Rattle.model.specs.Retire.{mapped_cells, retire_number}
use Rattle.claims.specs.Claims.{is_damage}
use Rattle.claims.proofs.kept.DayLaws.{good-day}

pub record MayRetire (x : Book) (v t : ℕ) : Type 0 where
  pub volume : no_volume x v ≡ false
  pub living : is_retired x v ≡ false
  pub day : x.day ≤ t
  pub last : t ≤ 60000
  pub after : not_after (days x v) t ≡ false
  pub slots : length x.slots < x.sizes.s
  pub records : length x.records + mapped_cells x v ≤ x.sizes.j

-- the number by its tests
abbrev pub retire_ladder : Bool → Bool → Bool → Bool → ℕ
retire_ladder volume day slots records = when volume then 5 else when day then 7 else when slots then 9 else when records then 10 else 0

ladder_zero : (a b c d : Bool) → retire_ladder a b c d ≡ 0 → (a ≡ false) × (b ≡ false) × (c ≡ false) × (d ≡ false)
ladder_zero true b c d z = absurd (omega arith)
ladder_zero false true c d z = absurd (omega arith)
ladder_zero false false true d z = absurd (omega arith)
ladder_zero false false false true z = absurd (omega arith)
ladder_zero false false false false z = (refl, refl, refl, refl)

ladder_damage : (a b c d : Bool) → is_damage (retire_ladder a b c d) ≡ false
ladder_damage true b c d = refl
ladder_damage false true c d = refl
ladder_damage false false true d = refl
ladder_damage false false false true = refl
ladder_damage false false false false = refl

module _ (x : Book) (v t : ℕ) where
  pub may_retire : retire_number x v t ≡ 0 → MayRetire x v t
  unfolding retire_number no_living
  may_retire z =
      let l = ladder_zero (no_living x v) (bad_day x.day t || not_after (days x v) t) (leb x.sizes.s (length x.slots))
      (ltb x.sizes.j (length x.records + mapped_cells x v)) z in
      let n = or_neither (no_volume x v) (is_retired x v) l.0 in
      let d = or_neither (bad_day x.day t) (not_after (days x v) t) l.1 in
      let b = (good-day x.day t).0 d.0 in
      record {
        volume = n.0;
        living = n.1;
        day = b.0;
        last = b.1;
        after = d.1;
        slots = leb-false x.sizes.s (length x.slots) l.2;
        records = ltb-false x.sizes.j (length x.records + mapped_cells x v) l.3;
      }

  -- no number of these says damage
  pub retire-undamaged : is_damage (retire_number x v t) ≡ false
  unfolding retire_number
  retire-undamaged =
      ladder_damage (no_living x v) (bad_day x.day t || not_after (days x v) t) (leb x.sizes.s (length x.slots))
      (ltb x.sizes.j (length x.records + mapped_cells x v))
