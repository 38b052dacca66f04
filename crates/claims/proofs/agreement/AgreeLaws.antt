-- What both sides say alike where they agree: current maps, days, numbers of backups, who is enrolled.
use Prim.Native.Nat.{ℕ, suc, ◌-◌, ◌<◌}
use mathlib.Core.Path.{◌≡◌, refl, sym, ap, ap₂, ◌∙◌}
use mathlib.Core.Bool.{Bool, true, false, not, ◌||◌}
use mathlib.Core.List.{List, []}
use native.Mathlib.Omega.{arith}
use lib.Dec.{ltb, eqb}
use lib.ListN.{length, get_or, replicate, get_or-replicate}
use borrow.Author.Tests.{ltb-false}
use Rattle.words.specs.Blocks.{unmapped}
use Rattle.words.proofs.ChoiceLaws.{not_both}
use Rattle.words.proofs.SectionLaws.{tab-list}
use Rattle.book.specs.Book.{volumes, Book, retention_of}
use Rattle.book.specs.Form.{enrolled}
use Rattle.model.specs.Journal.{journal, slots_of, slots_in, days, no_volume, backup_count, is_retired, no_living}
use Rattle.model.specs.Audit.{no_maps}
use Rattle.model.specs.Plain
use Rattle.model.specs.Plain.{Plain, retention_at, is_enrolled, taken_of, days_of, maps_of, no_map, current, current_of, current_maps, cell}
use Rattle.claims.proofs.agreement.Agree.{Agree, images_of, taken_in}
use Rattle.claims.proofs.kept.TakenLaws.{Ends}
use Rattle.claims.proofs.kept.Replays.{map_after, Sounds, slots_in-taken, slots_in-sound, slots_in-replayed, slots_in_emptied}
use Rattle.claims.proofs.kept.Sound.{Emptied}
use Rattle.claims.proofs.kept.Retirements.{RetiresLast, slots_end}
use Rattle.claims.proofs.kept.TakenIn.{days_taken_in, count_taken_in, retired_taken_in, ends_taken_in, newest_taken_in, map_taken_in}
use Rattle.book.proofs.Clauses.{book-parts}
use Rattle.words.proofs.Tests.{or_neither}

-- ---- the maps before any backup

pub length-no_maps : (x : Book) → length (no_maps x) ≡ volumes
unfolding no_maps
length-no_maps x = refl

pub no_maps-at : (x : Book) (v : ℕ) → v < volumes → get_or (no_maps x) v [] ≡ no_map x.sizes
unfolding no_maps
no_maps-at x v h = get_or-replicate volumes v (replicate x.sizes.l unmapped) [] h

-- ---- numbers 5 and 15, passed

pub volume-inside : (x : Book) (v : ℕ) → no_volume x v ≡ false → v < volumes
unfolding no_volume
volume-inside x v e = go (ltb 7 v) refl e
  where
    go : (t : Bool) → ltb 7 v ≡ t → (t || not (enrolled x v)) ≡ false → v < volumes
    go true f e = absurd (not_both true refl e)
    go false f e = omega (arith, ltb-false 7 v f)

pub living-inside : (x : Book) (v : ℕ) → no_living x v ≡ false → v < volumes
unfolding no_living
living-inside x v e = volume-inside x v (or_neither (no_volume x v) (is_retired x v) e).0

module _ {x : Book} {pool : List ℕ} {q : Plain} (g : Agree x pool q) where
  -- ---- a volume's backups are sound from the map with no backup

  pub sounds_agree : (v : ℕ) → v < volumes → Sounds (no_map x.sizes) (slots_in v (journal x))
  sounds_agree v h = rw (no_maps-at x v h) at (slots_in-sound v (no_maps x) (journal x) g.sound)

  -- ---- what was taken of a volume

  pub taken-agree : (v : ℕ) → v < volumes → taken_of v q.taken ≡ taken_in (no_map x.sizes) (slots_in v (journal x))
  taken-agree v h =
      ap (taken_of v) g.taken
      ∙ slots_in-taken v (no_maps x) (journal x) (rw length-no_maps h)
      ∙ ap (λ m. taken_in m (slots_in v (journal x))) (no_maps-at x v h)

  pub emptied_agree : (v : ℕ) → v < volumes → Emptied x.sizes.l (no_map x.sizes) (slots_in v (journal x))
  emptied_agree v h =
      rw (no_maps-at x v h) at (slots_in_emptied x.sizes.l v (no_maps x) (journal x) (rw length-no_maps h) g.emptied)

  pub ends_last : (v : ℕ) → RetiresLast (slots_of x v)
  ends_last v = slots_end x v (book-parts x g.fit.form).days

  -- ---- current maps

  pub map-after : (v : ℕ) → v < volumes → get_or x.maps v [] ≡ map_after (no_map x.sizes) (slots_in v (journal x))
  map-after v h =
      ap (λ ms. get_or ms v []) g.maps
      ∙ slots_in-replayed v (no_maps x) (journal x) (rw length-no_maps h)
      ∙ ap (λ m. map_after m (slots_in v (journal x))) (no_maps-at x v h)

  pub current-agree : (v : ℕ) → v < volumes → current_of q v ≡ get_or x.maps v []
  current-agree v h =
      ap₂ current g.sizes (taken-agree v h)
      ∙ newest_taken_in x.sizes (no_map x.sizes) (slots_in v (journal x)) (emptied_agree v h)
      ∙ sym (map-after v h)

  pub maps-agree : current_maps q ≡ x.maps
  unfolding current_maps
  maps-agree = tab-list volumes (current_of q) x.maps [] g.fit.sized.maps current-agree

  -- ---- days and numbers

  pub days-agree : (v : ℕ) → v < volumes → days_of (taken_of v q.taken) ≡ days x v
  unfolding days slots_of
  days-agree v h = ap days_of (taken-agree v h) ∙ days_taken_in (no_map x.sizes) (slots_in v (journal x))

  pub backups-agree : (v : ℕ) → v < volumes → length (maps_of (taken_of v q.taken)) ≡ backup_count x v
  unfolding backup_count slots_of
  backups-agree v h = ap (λ is. length (maps_of is)) (taken-agree v h) ∙ count_taken_in (no_map x.sizes) (slots_in v (journal x))

  pub ends-agree : (v : ℕ) → v < volumes → Ends (taken_of v q.taken)
  unfolding slots_of
  ends-agree v h = rw (taken-agree v h) (ends_taken_in (no_map x.sizes) (slots_in v (journal x)) (ends_last v))

  -- ---- number 5

  pub retention-agree : (v : ℕ) → retention_at q v ≡ retention_of x v
  retention-agree v = ap (λ (rs : List ℕ). get_or rs v 0) g.retentions

  pub enrolled-agree : (v : ℕ) → is_enrolled q v ≡ enrolled x v
  enrolled-agree v = ap (λ (r : ℕ). not (eqb r 0)) (retention-agree v)

  pub no_volume-agree : (v : ℕ) → (ltb 7 v || not (is_enrolled q v)) ≡ no_volume x v
  unfolding no_volume
  no_volume-agree v = ap (λ (e : Bool). ltb 7 v || not e) (enrolled-agree v)

  pub retired-agree : (v : ℕ) → v < volumes → Plain.is_retired (taken_of v q.taken) ≡ is_retired x v
  unfolding is_retired slots_of
  retired-agree v h = ap Plain.is_retired (taken-agree v h) ∙ retired_taken_in (no_map x.sizes) (slots_in v (journal x))

  pub no_living-agree : (v : ℕ) → Plain.no_living q v ≡ no_living x v
  unfolding no_living
  no_living-agree v =
      ap (λ (t : Bool). t || Plain.is_retired (taken_of v q.taken)) (no_volume-agree v) ∙ go (no_volume x v) refl
    where
      go : (t : Bool) → no_volume x v ≡ t → (t || Plain.is_retired (taken_of v q.taken)) ≡ (t || is_retired x v)
      go true e = refl
      go false e = retired-agree v (volume-inside x v e)

  -- ---- a cell of backup k + 1

  pub cell_agree : (v k l : ℕ) → v < volumes → k < backup_count x v
      → cell q v (suc k) l ≡ get_or (get_or (maps_of (images_of (no_map x.sizes) (slots_in v (journal x)))) k (no_map x.sizes)) l unmapped
  unfolding backup_count slots_of
  cell_agree v k l h i =
      let one : suc k - 1 ≡ k = omega arith in
      ap (λ j. get_or (get_or (maps_of (taken_of v q.taken)) j (no_map q.sizes)) l unmapped) one
      ∙ ap (λ z. get_or (get_or (maps_of (taken_of v q.taken)) k (no_map z)) l unmapped) g.sizes
      ∙ ap (λ is. get_or (get_or (maps_of is) k (no_map x.sizes)) l unmapped) (taken-agree v h)
      ∙ ap (λ (m : List ℕ). get_or m l unmapped)
      (map_taken_in (no_map x.sizes) (no_map x.sizes) (slots_in v (journal x)) k (ends_last v) i)
