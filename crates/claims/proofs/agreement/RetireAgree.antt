-- A retirement on both sides, from where they agree: refused by the same number, which is never 1 to 4, 13 or 14, or accepted with the same
-- number of cells, and then both agree again.
use Prim.Native.Nat.{ℕ, zero, suc, ◌+◌, ◌<◌}
use mathlib.Core.Path.{◌≡◌, refl, sym, ap, ap₂, ◌∙◌}
use mathlib.Core.Bool.{Bool, true, false, ◌||◌}
use mathlib.Core.List.{List}
use native.Mathlib.Nat.{zero-add}
use native.Mathlib.Omega.{arith}
use lib.Dec.{leb, ltb}
use lib.ListN.{length}
use Rattle.words.specs.Lists.{up_from}
use Rattle.words.specs.Outcome.{Outcome, refused, accepted, and_then, unless}
use Rattle.book.specs.Book.{volumes, Book}
use Rattle.book.proofs.Clauses.{book-parts}
use Rattle.book.proofs.SizesIn.{sizes-facts}
use Rattle.model.specs.Backup.{until_next}
use Rattle.model.specs.Days.{bad_day, not_after}
use Rattle.model.specs.Journal.{days, no_living}
use Rattle.model.specs.Retire.{mapped_cells, retire_number, clear_cells, Retired, retired, retire}
use Rattle.model.specs.Plain.{Plain, taken_of, days_of}
use Rattle.model.specs.PlainBackup.{changes_in}
use Rattle.model.specs.PlainRetire
use Rattle.model.specs.PlainRetire.{PlainRetired, cells_of}
use Rattle.claims.specs.Claims.{is_damage}
use Rattle.claims.proofs.agreement.Agree.{Fit, Agree}
use Rattle.claims.proofs.agreement.AgreeLaws.{volume-inside, living-inside, days-agree, no_living-agree}
use Rattle.claims.proofs.agreement.Clearing.{clear-run, clear-start}
use Rattle.claims.proofs.agreement.RetireAfter.{cells_agree, agree_after}
use Rattle.claims.proofs.agreement.SoFar.{taken_so_far, changes_so_far}
use Rattle.claims.proofs.form.RetireAllowed.{MayRetire, retire_ladder, may_retire, retire-undamaged}

-- an accepted retirement, as both sides have it
pub record RetiredAlike (pool : List ℕ) (d : Retired) (e : PlainRetired) : Type 0 where
  pub cells : d.cells ≡ e.cells
  pub agree : Fit d.book → Agree d.book pool e.store

pub data BothRetired (pool : List ℕ) : Outcome Retired → Outcome PlainRetired → Type 0 where
  stopped : (k : ℕ) → is_damage k ≡ false → BothRetired pool (refused k) (refused k)
  retires : (d : Retired) (e : PlainRetired) → RetiredAlike pool d e → BothRetired pool (accepted d) (accepted e)

ladder_same : (a b b' c c' d d' : Bool) → b ≡ b' → c ≡ c' → d ≡ d' → retire_ladder a b c d ≡ retire_ladder a b' c' d'
ladder_same a b b' c c' d d' p q r = cc

module _ {x : Book} {pool : List ℕ} {q : Plain} (g : Agree x pool q) (v t : ℕ) where
  -- both numbers, by whether the volume is refused
  abbrev our_number : Bool → ℕ
  our_number s =
      retire_ladder s (bad_day x.day t || not_after (days x v) t) (leb x.sizes.s (length x.slots))
      (ltb x.sizes.j (length x.records + mapped_cells x v))

  abbrev plain_number : Bool → ℕ
  plain_number s =
      retire_ladder s (bad_day q.day t || not_after (days_of (taken_of v q.taken)) t) (leb q.sizes.s (length q.taken))
      (ltb q.sizes.j (changes_in q.taken + cells_of q v))

  number-agree : PlainRetire.retire_number q v t ≡ retire_number x v t
  unfolding retire_number PlainRetire.retire_number
  number-agree = ap plain_number (no_living-agree g v) ∙ go (no_living x v) refl
    where
      go : (s : Bool) → no_living x v ≡ s → plain_number s ≡ our_number s
      go true e = refl
      go false e =
          let h = living-inside x v e in
          ladder_same false _ _ _ _ _ _
          (ap₂ (λ (d : ℕ) (ds : List ℕ). bad_day d t || not_after ds t) g.day (days-agree g v h))
          (ap₂ leb (ap (λ z. z.s) g.sizes) (taken_so_far g))
          (ap₂ ltb (ap (λ z. z.j) g.sizes) (ap₂ (λ (j k : ℕ). j + k) (changes_so_far g) (cells_agree g v h)))

  -- the cells are cleared, and the slot is added
  close-both : MayRetire x v t → v < volumes
      → BothRetired pool (and_then (clear_cells v (until_next x v) (up_from 0 x.sizes.l) x) (λ y. accepted (retired x v t y)))
      (accepted (PlainRetire.retired q v t))
  unfolding retired PlainRetire.retired
  close-both ok inside =
      let there : v < length x.maps = rw g.fit.sized.maps inside in
      let few = (sizes-facts x.sizes g.fit.sizes).n in
      let start =
      clear-start x v (until_next x v) there (omega arith) g.fit.sized (book-parts x g.fit.form) inside g.counts g.prints in
      let run = clear-run x v (until_next x v) there (omega arith) x.sizes.l 0 x start (zero-add x.sizes.l) in
      rw run.1.0
      (retires (retired x v t run.0) (PlainRetire.retired q v t) (record {
        cells = sym (cells_agree g v inside);
        agree = agree_after g v t ok inside run.0 run.1.1;
      }))

  pub retire-agree : BothRetired pool (retire x v t) (PlainRetire.retire q v t)
  unfolding retire PlainRetire.retire
  retire-agree = rw number-agree (go (retire_number x v t) refl)
    where
      go : (k : ℕ) → retire_number x v t ≡ k
          → BothRetired pool
          (unless k (and_then (clear_cells v (until_next x v) (up_from 0 x.sizes.l) x) (λ y. accepted (retired x v t y))))
          (unless k (accepted (PlainRetire.retired q v t)))
      go zero e = let ok = may_retire x v t e in close-both ok (volume-inside x v ok.volume)
      go (suc k) e = stopped (suc k) (rw e at (retire-undamaged x v t))
