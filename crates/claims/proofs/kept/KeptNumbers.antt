-- A kept backup that has block p at an LBN: by its number, and by the record that takes p away.
use Prim.Native.Nat.{ℕ, zero, suc, ◌<◌}
use mathlib.Core.Path.{◌≡◌, refl, sym}
use mathlib.Core.Logic.{◌≢◌, ◌⊎◌, inl, inr}
use mathlib.Core.Bool.{Bool, true, false, ◌&&◌, ◌||◌}
use mathlib.Core.List.{List, [], ◌∷◌}
use mathlib.Core.Option.{some}
use native.Mathlib.Omega.{arith}
use lib.Dec.{eqb}
use lib.ListN.{length, get_or}
use borrow.Author.Tests.{eqb-true, eq-eqb}
use Rattle.words.specs.Blocks.{unmapped}
use Rattle.words.specs.Choice.{when◌then◌else◌}
use Rattle.words.proofs.ChoiceLaws.{and_true, true_and, or_cases, or_l, or_r, not_both}
use Rattle.words.specs.Lists.{first_that}
use Rattle.book.specs.Book.{Rec}
use Rattle.model.specs.Days.{kept_by, kept}
use Rattle.model.specs.Read.{before_or}
use Rattle.model.specs.Plain.{What, image, retirement, Taken, days_of, map_with, maps_of}
use Rattle.model.specs.JournalAt.{first_before}
use Rattle.claims.proofs.kept.KeptOwn.{takes}
use Rattle.claims.proofs.kept.KeptCells.{has_at, kept_at}
use Rattle.claims.proofs.kept.TakenLaws.{Ends, is_image}

-- ---- kept backups by number, and in a row

-- backup k + 1 is kept and has p at l; past the last map is z
abbrev pub Numbered : ℕ → ℕ → ℕ → ℕ → List ℕ → List Taken → ℕ → Type 0
Numbered p r d l z is k =
    (k < length (maps_of is)) × (kept (days_of is) r d (suc k) ≡ true) × (eqb p (get_or (get_or (maps_of is) k z) l unmapped) ≡ true)

-- a backup of the row that is kept and has p at l is one of the numbers
pub kept-number : (p r d l : ℕ) (z : List ℕ) (is : List Taken) → Ends is → kept_at p r d l is ≡ true → (k : ℕ) × Numbered p r d l z is k
unfolding kept
kept-number p r d l z [] s e = absurd (not_both false e refl)
kept-number p r d l z (i ∷ is) s e =
    go i.what s.0 (or_cases (kept_by i.day (days_of is) r d && has_at p l i.what) (kept_at p r d l is) e)
    (kept-number p r d l z is s.1)
  where
    go : (w : What) → (is_image w ≡ false → is ≡ [])
        → ((kept_by i.day (days_of is) r d && has_at p l w) ≡ true) ⊎ (kept_at p r d l is ≡ true)
        → (kept_at p r d l is ≡ true → (k : ℕ) × Numbered p r d l z is k)
        → (k : ℕ) × ((k < length (map_with w (maps_of is))) × (kept (days_of (i ∷ is)) r d (suc k) ≡ true)
        × (eqb p (get_or (get_or (map_with w (maps_of is)) k z) l unmapped) ≡ true))
    go (image m) n (inl a) ih =
        let w = and_true (kept_by i.day (days_of is) r d) (eqb p (get_or m l unmapped)) a in (0, (omega arith, w.0, w.1))
    go (image m) n (inr b) ih = let w = ih b in let h = w.1.0 in (suc w.0, (omega arith, w.1.1, w.1.2))
    go retirement n (inl a) ih = absurd (not_both false (and_true (kept_by i.day (days_of is) r d) false a).1 refl)
    go retirement n (inr b) ih = absurd (not_both false (rw (n refl) at b) refl)

pub number-kept : (p r d l k : ℕ) (z : List ℕ) (is : List Taken) → Ends is → Numbered p r d l z is k → kept_at p r d l is ≡ true
unfolding kept
number-kept p r d l k z [] s n = absurd (let h = n.0 in omega arith)
number-kept p r d l k z (i ∷ is) s n = go i.what k s.0 n.0 n.1 n.2 (λ j. number-kept p r d l j z is s.1)
  where
    go : (w : What) (k : ℕ) → (is_image w ≡ false → is ≡ []) → k < length (map_with w (maps_of is))
        → kept (days_of (i ∷ is)) r d (suc k) ≡ true → eqb p (get_or (get_or (map_with w (maps_of is)) k z) l unmapped) ≡ true
        → ((j : ℕ) → Numbered p r d l z is j → kept_at p r d l is ≡ true)
        → ((kept_by i.day (days_of is) r d && has_at p l w) || kept_at p r d l is) ≡ true
    go (image m) zero n h e f ih =
        or_l (kept_by i.day (days_of is) r d && eqb p (get_or m l unmapped)) (kept_at p r d l is)
        (true_and (kept_by i.day (days_of is) r d) (eqb p (get_or m l unmapped)) e f)
    go (image m) (suc k) n h e f ih =
        or_r (kept_by i.day (days_of is) r d && eqb p (get_or m l unmapped)) (kept_at p r d l is) (ih k (omega arith, e, f))
    go retirement k n h e f ih = let h' : k < 0 = rw (n refl) at h in absurd (omega arith)

-- ---- the first record of l takes p away exactly when its before is p

pub takes_first : (p l : ℕ) (rs : List Rec) → takes p l rs ≡ true → first_before l rs unmapped ≡ p
takes_first p l [] e = absurd (not_both false e refl)
takes_first p l (r ∷ rs) e = go (eqb r.lbn l) e (takes_first p l rs)
  where
    go : (t : Bool) → (when t then eqb r.before p else takes p l rs) ≡ true → (takes p l rs ≡ true → first_before l rs unmapped ≡ p)
        → before_or unmapped (when t then some r else first_that (λ r. eqb r.lbn l) rs) ≡ p
    go true f ih = eqb-true r.before p f
    go false f ih = ih f

pub first-takes : (p l : ℕ) (rs : List Rec) → p ≢ unmapped → first_before l rs unmapped ≡ p → takes p l rs ≡ true
first-takes p l [] n e = absurd (n (sym e))
first-takes p l (r ∷ rs) n e = go (eqb r.lbn l) e (first-takes p l rs n)
  where
    go : (t : Bool) → before_or unmapped (when t then some r else first_that (λ r. eqb r.lbn l) rs) ≡ p
        → (first_before l rs unmapped ≡ p → takes p l rs ≡ true)
        → (when t then eqb r.before p else takes p l rs) ≡ true
    go true f ih = eq-eqb r.before p f
    go false f ih = ih f
