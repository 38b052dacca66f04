-- A collect in the plain store: blocks that a kept map names are marked, and marked blocks stay.
use Prim.Native.Nat.{ℕ, zero, suc, ◌+◌, ◌<◌}
use mathlib.Core.Path.{◌≡◌, refl, ap}
use mathlib.Core.Bool.{Bool, true, false, ◌&&◌, ◌||◌}
use mathlib.Core.List.{List, [], ◌∷◌}
use native.Mathlib.Nat.{zero-add, add-zero, add-suc, suc-add}
use native.Mathlib.Omega.{arith}
use lib.ListN.{length, get_or}
use Rattle.words.proofs.ChoiceLaws.{true_and, or_l, or_r}
use Rattle.words.specs.Lists.{some_of, up_from}
use Rattle.book.specs.Book.{volumes}
use Rattle.model.specs.Days.{kept_by, kept}
use Rattle.model.specs.Plain.{Block, free, What, image, retirement, Taken, Plain, retention_at, taken_of, days_of, map_with, maps_of}
use Rattle.model.specs.Plain.{current_maps, names, names_in, kept_names, marked, swept}
use Rattle.claims.proofs.kept.TakenLaws.{is_image, Ends, volume-some}

-- ---- marked

-- backup k + 1 is kept and names p
image-named : (p r d k : ℕ) (z : List ℕ) (is : List Taken) → Ends is → k < length (maps_of is) → kept (days_of is) r d (suc k) ≡ true
    → names p (get_or (maps_of is) k z) ≡ true → kept_names p r d is ≡ true
unfolding kept
image-named p r d k z [] s h e n = absurd (omega arith)
image-named p r d k z (i ∷ is) s h e n = go i.what k s.0 h e n (λ j. image-named p r d j z is s.1)
  where
    go : (w : What) (k : ℕ) → (is_image w ≡ false → is ≡ []) → k < length (map_with w (maps_of is))
        → kept (days_of (i ∷ is)) r d (suc k) ≡ true → names p (get_or (map_with w (maps_of is)) k z) ≡ true
        → ((j : ℕ) → j < length (maps_of is) → kept (days_of is) r d (suc j) ≡ true → names p (get_or (maps_of is) j z) ≡ true
        → kept_names p r d is ≡ true)
        → ((kept_by i.day (days_of is) r d && names_in p w) || kept_names p r d is) ≡ true
    go (image m) zero s h e n ih =
        or_l (kept_by i.day (days_of is) r d && names p m) (kept_names p r d is)
        (true_and (kept_by i.day (days_of is) r d) (names p m) e n)
    go (image m) (suc k) s h e n ih =
        or_r (kept_by i.day (days_of is) r d && names p m) (kept_names p r d is) (ih k (omega arith) e n)
    go retirement k s h e n ih = let h' : k < 0 = rw (s refl) at h in absurd (omega arith)

pub kept-marked : (q : Plain) (d v k p : ℕ) (z : List ℕ) → v < volumes → Ends (taken_of v q.taken)
    → k < length (maps_of (taken_of v q.taken))
    → kept (days_of (taken_of v q.taken)) (retention_at q v) d (suc k) ≡ true
    → names p (get_or (maps_of (taken_of v q.taken)) k z) ≡ true
    → marked q d p ≡ true
unfolding marked
kept-marked q d v k p z hv s hk e n =
    or_r (some_of (names p) (current_maps q)) (some_of (λ v. kept_names p (retention_at q v) d (taken_of v q.taken)) (up_from 0 volumes))
    (volume-some (λ v. kept_names p (retention_at q v) d (taken_of v q.taken)) v hv
    (image-named p (retention_at q v) d k z (taken_of v q.taken) s hk e n))

-- ---- swept

module _ (mark : ℕ → Bool) where
  pub length-swept : (i : ℕ) (bs : List Block) → length (swept mark i bs) ≡ length bs
  length-swept i [] = refl
  length-swept i (b ∷ bs) = ap suc (length-swept (suc i) bs)

  swept-from : (i j : ℕ) (bs : List Block) → mark (i + j) ≡ true → get_or (swept mark i bs) j free ≡ get_or bs j free
  swept-from i j [] e = refl
  swept-from i zero (b ∷ bs) e = rw (rw add-zero at e)
  swept-from i (suc j) (b ∷ bs) e = swept-from (suc i) j bs (rw (suc-add i j, ← (add-suc i j)) e)

  pub swept-marked : (p : ℕ) (bs : List Block) → mark p ≡ true → get_or (swept mark 0 bs) p free ≡ get_or bs p free
  swept-marked p bs e = swept-from 0 p bs (rw zero-add e)
