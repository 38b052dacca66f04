-- Laws of the plain store's list of what was taken, of one volume or of all.
use Prim.Native.Nat.{ℕ, suc, ◌≤◌, ◌<◌}
use mathlib.Core.Path.{◌≡◌, refl, sym, ap, ◌∙◌}
use mathlib.Core.Bool.{Bool, true, false}
use mathlib.Core.List.{List, [], ◌∷◌, ◌++◌, map}
use native.Mathlib.Nat.{zero-add}
use native.Mathlib.Omega.{arith}
use lib.ListN.{length, get_or}
use Rattle.words.proofs.ChoiceLaws.{and_true, true_and, not_both}
use Rattle.words.specs.Lists.{all, some_of, up_from}
use Rattle.words.proofs.Places.{some-place, place-some}
use Rattle.words.proofs.Ranges.{length-up_from, get_or-up_from}
use Rattle.words.proofs.Tests.{or_neither}
use Rattle.book.specs.Book.{volumes, Sizes}
use Rattle.model.specs.Plain.{What, image, retirement, Taken, map_with, maps_of, is_retirement, is_retired, leaves}

abbrev pub is_image : What → Bool
is_image (image m) = true
is_image retirement = false

-- it was taken by a backup
abbrev pub is_backup : Taken → Bool
is_backup i = is_image i.what

-- of one volume: "no slot of the volume follows" a retirement (document 02, K6)
abbrev pub Ends : List Taken → Type 0
Ends [] = Unit {0}
Ends (i ∷ is) = (is_backup i ≡ false → is ≡ []) × Ends is

pub maps_append : (is js : List Taken) → maps_of (is ++ js) ≡ maps_of is ++ maps_of js
maps_append [] js = refl
maps_append (i ∷ is) js = go i.what (maps_append is js)
  where
    go : (w : What) → maps_of (is ++ js) ≡ maps_of is ++ maps_of js → map_with w (maps_of (is ++ js)) ≡ map_with w (maps_of is) ++ maps_of js
    go (image m) ih = ap (λ (ms : List (List ℕ)). m ∷ ms) ih
    go retirement ih = ih

-- there are no more maps than things taken: a retirement has none
pub maps-within : (is : List Taken) → length (maps_of is) ≤ length is
maps-within [] = omega arith
maps-within (i ∷ is) = go i.what (maps-within is)
  where
    go : (w : What) → length (maps_of is) ≤ length is → length (map_with w (maps_of is)) ≤ suc (length is)
    go (image m) ih = omega arith
    go retirement ih = omega arith

-- ---- where all were taken by backups

-- so it is of a volume that isn't retired
pub living-backups : (is : List Taken) → is_retired is ≡ false → all is_backup is ≡ true
living-backups [] e = refl
living-backups (i ∷ is) e =
    let w = or_neither (is_retirement i.what) (is_retired is) e in
    true_and (is_backup i) (all is_backup is) (go i.what w.0) (living-backups is w.1)
  where
    go : (w : What) → is_retirement w ≡ false → is_image w ≡ true
    go (image m) f = refl
    go retirement f = absurd (not_both true refl f)

-- then one more may follow, whatever it is
pub backups-then : (is : List Taken) (i : Taken) → all is_backup is ≡ true → Ends (is ++ (i ∷ []))
backups-then [] i e = (λ f. refl, tt)
backups-then (j ∷ is) i e =
    let w = and_true (is_backup j) (all is_backup is) e in (λ f. absurd (not_both (is_backup j) w.0 f), backups-then is i w.1)

pub backups-leave : (z : Sizes) (is : List Taken) → all is_backup is ≡ true → map (λ (i : Taken). leaves z i.what) is ≡ maps_of is
backups-leave z [] e = refl
backups-leave z (i ∷ is) e = let w = and_true (is_backup i) (all is_backup is) e in go i.what w.0 (backups-leave z is w.1)
  where
    go : (w : What) → is_image w ≡ true → map (λ (i : Taken). leaves z i.what) is ≡ maps_of is
        → leaves z w ∷ map (λ (i : Taken). leaves z i.what) is ≡ map_with w (maps_of is)
    go (image m) f ih = ap (λ (ms : List (List ℕ)). m ∷ ms) ih
    go retirement f ih = absurd (not_both false f refl)

pub backups-count : (is : List Taken) → all is_backup is ≡ true → length (maps_of is) ≡ length is
backups-count [] e = refl
backups-count (i ∷ is) e = let w = and_true (is_backup i) (all is_backup is) e in go i.what w.0 (backups-count is w.1)
  where
    go : (w : What) → is_image w ≡ true → length (maps_of is) ≡ length is → length (map_with w (maps_of is)) ≡ suc (length is)
    go (image m) f ih = ap suc ih
    go retirement f ih = absurd (not_both false f refl)

-- ---- some volume of all eight

volume-place : (v : ℕ) → v < volumes → get_or (up_from 0 volumes) v 0 ≡ v
volume-place v h = get_or-up_from 0 volumes v h ∙ zero-add v

module _ (f : ℕ → Bool) where
  pub some-volume : some_of f (up_from 0 volumes) ≡ true → (v : ℕ) × (v < volumes) × (f v ≡ true)
  some-volume e =
      let w = some-place f (up_from 0 volumes) 0 e in
      let h : w.0 < volumes = rw length-up_from at w.1 in
      (w.0, h, ap f (sym (volume-place w.0 h)) ∙ w.2)

  pub volume-some : (v : ℕ) → v < volumes → f v ≡ true → some_of f (up_from 0 volumes) ≡ true
  volume-some v h e = place-some f (up_from 0 volumes) 0 v (rw length-up_from h) (ap f (volume-place v h) ∙ e)
