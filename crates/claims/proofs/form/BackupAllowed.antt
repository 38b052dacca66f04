-- What it says that none of numbers 5 to 10 refuses a backup.
use Prim.Native.Nat.{ℕ, ◌+◌, ◌≤◌, ◌<◌}
use mathlib.Core.Path.{◌≡◌, refl}
use mathlib.Core.Bool.{Bool, true, false, not, ◌||◌}
use mathlib.Core.List.{List}
use native.Mathlib.Omega.{arith}
use lib.Dec.{leb, ltb, eqb}
use lib.ListN.{length}
use borrow.Author.Tests.{eqb-true, leb-false, ltb-false, not-false}
use Rattle.words.specs.Choice.{when◌then◌else◌}
use Rattle.words.proofs.Tests.{or_neither}
use Rattle.runs.specs.Changes.{change_count, list_number}
use Rattle.book.specs.Book.{Book}
use Rattle.model.specs.Days.{bad_day, not_after}
use Rattle.claims.proofs.kept.DayLaws.{good-day}
use Rattle.model.specs.Journal.{days, is_retired, no_volume, no_living}
use Rattle.model.specs.Backup.{backup_number}
use Rattle.claims.specs.Claims.{is_damage}

pub record Allowed (x : Book) (v t : ℕ) (list : List ℕ) : Type 0 where
  pub volume : no_volume x v ≡ false
  pub living : is_retired x v ≡ false
  pub day : x.day ≤ t
  pub last : t ≤ 60000
  pub after : not_after (days x v) t ≡ false
  pub good : list_number x.sizes.l list ≡ 0
  pub slots : length x.slots < x.sizes.s
  pub records : length x.records + change_count list ≤ x.sizes.j

-- the number by its tests
abbrev pub ladder : Bool → Bool → Bool → Bool → Bool → ℕ
ladder volume day list slots records =
    when volume then 5 else when day then 7 else when list then 8 else when slots then 9 else when records then 10 else 0

ladder_zero : (a b c d e : Bool) → ladder a b c d e ≡ 0 → (a ≡ false) × (b ≡ false) × (c ≡ false) × (d ≡ false) × (e ≡ false)
ladder_zero true b c d e z = absurd (omega arith)
ladder_zero false true c d e z = absurd (omega arith)
ladder_zero false false true d e z = absurd (omega arith)
ladder_zero false false false true e z = absurd (omega arith)
ladder_zero false false false false true z = absurd (omega arith)
ladder_zero false false false false false z = (refl, refl, refl, refl, refl)

ladder_damage : (a b c d e : Bool) → is_damage (ladder a b c d e) ≡ false
ladder_damage true b c d e = refl
ladder_damage false true c d e = refl
ladder_damage false false true d e = refl
ladder_damage false false false true e = refl
ladder_damage false false false false true = refl
ladder_damage false false false false false = refl

module _ (x : Book) (v t : ℕ) (list : List ℕ) where
  pub number-zero : backup_number x v t list ≡ 0 → Allowed x v t list
  unfolding backup_number no_living
  number-zero z =
      let l = ladder_zero (no_living x v) (bad_day x.day t || not_after (days x v) t) (not (eqb (list_number x.sizes.l list) 0))
      (leb x.sizes.s (length x.slots)) (ltb x.sizes.j (length x.records + change_count list)) z in
      let n = or_neither (no_volume x v) (is_retired x v) l.0 in
      let d = or_neither (bad_day x.day t) (not_after (days x v) t) l.1 in
      let b = (good-day x.day t).0 d.0 in
      record {
        volume = n.0;
        living = n.1;
        day = b.0;
        last = b.1;
        after = d.1;
        good = eqb-true (list_number x.sizes.l list) 0 (not-false (eqb (list_number x.sizes.l list) 0) l.2);
        slots = leb-false x.sizes.s (length x.slots) l.3;
        records = ltb-false x.sizes.j (length x.records + change_count list) l.4;
      }

  -- no number from 5 to 10 says damage
  pub number_damage : is_damage (backup_number x v t list) ≡ false
  unfolding backup_number
  number_damage =
      ladder_damage (no_living x v) (bad_day x.day t || not_after (days x v) t) (not (eqb (list_number x.sizes.l list) 0))
      (leb x.sizes.s (length x.slots)) (ltb x.sizes.j (length x.records + change_count list))
