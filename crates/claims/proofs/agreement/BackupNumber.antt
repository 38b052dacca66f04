-- Where both sides agree, numbers 5 to 10 of a backup are the same.
use Prim.Native.Nat.{ℕ, ◌+◌}
use mathlib.Core.Path.{◌≡◌, refl, ap, ap₂, ◌∙◌}
use mathlib.Core.Bool.{Bool, true, false, not, ◌||◌}
use mathlib.Core.List.{List}
use lib.Dec.{leb, ltb, eqb}
use lib.ListN.{length}
use Rattle.runs.specs.Changes.{change_count, list_number}
use Rattle.book.specs.Book.{Book}
use Rattle.model.specs.Days.{bad_day, not_after}
use Rattle.model.specs.Journal.{days, no_living}
use Rattle.model.specs.Backup.{backup_number}
use Rattle.model.specs.Plain.{Plain, taken_of, days_of}
use Rattle.model.specs.PlainBackup
use Rattle.model.specs.PlainBackup.{changes_in}
use Rattle.claims.proofs.agreement.Agree.{Agree}
use Rattle.claims.proofs.agreement.AgreeLaws.{living-inside, days-agree, no_living-agree}
use Rattle.claims.proofs.form.BackupAllowed.{ladder}
use Rattle.claims.proofs.agreement.SoFar.{taken_so_far, changes_so_far}

ladder_same : (a b b' c c' d d' e e' : Bool) → b ≡ b' → c ≡ c' → d ≡ d' → e ≡ e' → ladder a b c d e ≡ ladder a b' c' d' e'
ladder_same a b b' c c' d d' e e' p q r s = cc

module _ {x : Book} {pool : List ℕ} {q : Plain} (g : Agree x pool q) (v t : ℕ) (list : List ℕ) where
  -- both numbers, by whether the volume is refused
  abbrev our_number : Bool → ℕ
  our_number s =
      ladder s (bad_day x.day t || not_after (days x v) t) (not (eqb (list_number x.sizes.l list) 0))
      (leb x.sizes.s (length x.slots)) (ltb x.sizes.j (length x.records + change_count list))

  abbrev plain_number : Bool → ℕ
  plain_number s =
      ladder s (bad_day q.day t || not_after (days_of (taken_of v q.taken)) t) (not (eqb (list_number q.sizes.l list) 0))
      (leb q.sizes.s (length q.taken)) (ltb q.sizes.j (changes_in q.taken + change_count list))

  pub number-agree : PlainBackup.backup_number q v t list ≡ backup_number x v t list
  unfolding backup_number PlainBackup.backup_number
  number-agree = ap plain_number (no_living-agree g v) ∙ go (no_living x v) refl
    where
      go : (s : Bool) → no_living x v ≡ s → plain_number s ≡ our_number s
      go true e = refl
      go false e =
          ladder_same false _ _ _ _ _ _ _ _
          (ap₂ (λ (d : ℕ) (ds : List ℕ). bad_day d t || not_after ds t) g.day (days-agree g v (living-inside x v e)))
          (ap (λ z. not (eqb (list_number z.l list) 0)) g.sizes)
          (ap₂ leb (ap (λ z. z.s) g.sizes) (taken_so_far g))
          (ap₂ (λ (j k : ℕ). ltb j (k + change_count list)) (ap (λ z. z.j) g.sizes) (changes_so_far g))
