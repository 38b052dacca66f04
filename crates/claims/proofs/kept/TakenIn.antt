-- What the plain store took of a volume, beside the images of its slots: the retirement comes last and leaves nothing mapped, so that both show the
-- same backups, and the same blocks in what is kept.
use Prim.Native.Nat.{ℕ, zero, suc, ◌<◌}
use mathlib.Core.Path.{◌≡◌, refl, sym, ap, ap₂, ◌∙◌}
use mathlib.Core.Logic.{◌≢◌}
use mathlib.Core.Bool.{Bool, true, false, not, ◌&&◌, ◌||◌}
use mathlib.Core.List.{List, [], ◌∷◌, map}
use native.Mathlib.Omega.{arith}
use lib.Dec.{eqb}
use lib.ListN.{length, get_or, replicate}
use borrow.Author.Tests.{ne_eqb}
use Rattle.words.specs.Blocks.{unmapped}
use Rattle.words.specs.Choice.{when◌then◌else◌}
use Rattle.words.proofs.ChoiceLaws.{not_both}
use Rattle.words.proofs.Places.{get_or_replicated}
use Rattle.words.specs.Lists.{some_of, count_of, last_of}
use Rattle.book.specs.Book.{Sizes}
use Rattle.model.specs.Days.{kept_by}
use Rattle.model.specs.Journal.{Backup}
use Rattle.model.specs.Audit.{applied}
use Rattle.model.specs.Plain.{What, image, retirement, Taken, days_of, maps_of, map_with, is_retired, is_retirement, leaves}
use Rattle.claims.proofs.agreement.Agree.{taken_in, images_of}
use Rattle.claims.proofs.kept.KeptCells.{has_at, kept_at}
use Rattle.claims.proofs.kept.Replays.{map_after}
use Rattle.claims.proofs.kept.Retirements
use Rattle.claims.proofs.kept.Retirements.{RetiresLast}
use Rattle.claims.proofs.kept.Sound.{Emptied}
use Rattle.claims.proofs.kept.TakenLaws.{is_image, Ends}

-- what a slot leaves of the volume, by whether it retires it
abbrev what_of : Bool → List ℕ → What
what_of out m = when out then retirement else image m

pub days_taken_in : (m : List ℕ) (bs : List Backup) → days_of (taken_in m bs) ≡ map (λ b. b.day) bs
days_taken_in m [] = refl
days_taken_in m (b ∷ bs) = ap (λ (r : List ℕ). b.day ∷ r) (days_taken_in (applied m b.records) bs)

-- a retirement is no backup
pub count_taken_in : (m : List ℕ) (bs : List Backup) → length (maps_of (taken_in m bs)) ≡ count_of Retirements.is_backup bs
count_taken_in m [] = refl
count_taken_in m (b ∷ bs) = go b.retire (count_taken_in (applied m b.records) bs)
  where
    rest : List (List ℕ)
    rest = maps_of (taken_in (applied m b.records) bs)

    go : (t : Bool) → length rest ≡ count_of Retirements.is_backup bs
        → length (map_with (what_of t (applied m b.records)) rest)
        ≡ (when not t then suc (count_of Retirements.is_backup bs) else count_of Retirements.is_backup bs)
    go true ih = ih
    go false ih = ap suc ih

pub retired_taken_in : (m : List ℕ) (bs : List Backup) → is_retired (taken_in m bs) ≡ some_of (λ (b : Backup). b.retire) bs
retired_taken_in m [] = refl
retired_taken_in m (b ∷ bs) =
    ap₂ (λ (s t : Bool). s || t) (go b.retire) (retired_taken_in (applied m b.records) bs)
  where
    go : (t : Bool) → is_retirement (what_of t (applied m b.records)) ≡ t
    go true = refl
    go false = refl

pub ends_taken_in : (m : List ℕ) (bs : List Backup) → RetiresLast bs → Ends (taken_in m bs)
unfolding RetiresLast
ends_taken_in m [] h = tt
ends_taken_in m (b ∷ bs) h = (go b.retire h.0, ends_taken_in (applied m b.records) bs h.1)
  where
    go : (t : Bool) → (t ≡ true → bs ≡ []) → is_image (what_of t (applied m b.records)) ≡ false → taken_in (applied m b.records) bs ≡ []
    go true e f = ap (λ (cs : List Backup). taken_in (applied m b.records) cs) (e refl)
    go false e f = absurd (not_both true refl f)

-- "its newest map stops being current", and then nothing is mapped
pub newest_taken_in : (z : Sizes) (m : List ℕ) (bs : List Backup) → Emptied z.l m bs
    → last_of m (map (λ (i : Taken). leaves z i.what) (taken_in m bs)) ≡ map_after m bs
unfolding Emptied
newest_taken_in z m [] e = refl
newest_taken_in z m (b ∷ bs) e =
    ap (λ (c : List ℕ). last_of c (map (λ (i : Taken). leaves z i.what) (taken_in (applied m b.records) bs))) (go b.retire e.0)
    ∙ newest_taken_in z (applied m b.records) bs e.1
  where
    go : (t : Bool) → (t ≡ true → applied m b.records ≡ replicate z.l unmapped)
        → leaves z (what_of t (applied m b.records)) ≡ applied m b.records
    go true e = sym (e refl)
    go false e = refl

-- the map of backup k + 1
pub map_taken_in : (m z : List ℕ) (bs : List Backup) (k : ℕ) → RetiresLast bs → k < count_of Retirements.is_backup bs
    → get_or (maps_of (taken_in m bs)) k z ≡ get_or (maps_of (images_of m bs)) k z
unfolding RetiresLast
map_taken_in m z [] k h l = absurd (omega arith)
map_taken_in m z (b ∷ bs) k h l = go b.retire k h.0 l (λ j i. map_taken_in (applied m b.records) z bs j h.1 i)
  where
    here : List ℕ
    here = applied m b.records

    go : (t : Bool) (k : ℕ) → (t ≡ true → bs ≡ [])
        → k < (when not t then suc (count_of Retirements.is_backup bs) else count_of Retirements.is_backup bs)
        → ((j : ℕ) → j < count_of Retirements.is_backup bs → get_or (maps_of (taken_in here bs)) j z ≡ get_or (maps_of (images_of here bs)) j z)
        → get_or (map_with (what_of t here) (maps_of (taken_in here bs))) k z ≡ get_or (here ∷ maps_of (images_of here bs)) k z
    go true k e l ih =
        let none : count_of Retirements.is_backup bs ≡ 0 = ap (λ (cs : List Backup). count_of Retirements.is_backup cs) (e refl) in absurd (omega arith)
    go false zero e l ih = refl
    go false (suc k) e l ih = ih k (omega arith)

-- a kept backup has block p at an LBN
pub kept_taken_in : (p r d l n : ℕ) (m : List ℕ) (bs : List Backup) → p ≢ unmapped → Emptied n m bs
    → kept_at p r d l (taken_in m bs) ≡ kept_at p r d l (images_of m bs)
unfolding Emptied
kept_taken_in p r d l n m [] h e = refl
kept_taken_in p r d l n m (b ∷ bs) h e =
    ap₂ (λ (s t : Bool). s || t)
    (ap₂ (λ (s t : Bool). s && t) (same-days (applied m b.records) bs) (go b.retire e.0))
    (kept_taken_in p r d l n (applied m b.records) bs h e.1)
  where
    same-days : (c : List ℕ) (cs : List Backup) → kept_by b.day (days_of (taken_in c cs)) r d ≡ kept_by b.day (days_of (images_of c cs)) r d
    same-days c [] = refl
    same-days c (a ∷ cs) = refl

    go : (t : Bool) → (t ≡ true → applied m b.records ≡ replicate n unmapped)
        → has_at p l (what_of t (applied m b.records)) ≡ eqb p (get_or (applied m b.records) l unmapped)
    go true f = sym (ne_eqb p (get_or (applied m b.records) l unmapped)
        (λ q. h (q ∙ ap (λ (c : List ℕ). get_or c l unmapped) (f refl) ∙ get_or_replicated n unmapped l)))
    go false f = refl
