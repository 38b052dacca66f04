-- Read's rule gives the cell of the image: the before of an LBN's first record after backup k is what its map had there.
use Prim.Native.Nat.{ℕ, zero, suc, ◌<◌}
use mathlib.Core.Path.{◌≡◌, refl, sym, ap, ◌∙◌}
use mathlib.Core.Bool.{Bool, true, false}
use mathlib.Core.List.{List, [], ◌∷◌}
use mathlib.Core.Option.{some}
use native.Mathlib.Omega.{arith}
use lib.Dec.{eqb}
use lib.ListN.{length, get_or, set, drop}
use lib.Seq.{get_or-set_other}
use borrow.Author.Tests.{eqb-true, eqb-false}
use Rattle.words.specs.Blocks.{unmapped}
use Rattle.words.specs.Choice.{when◌then◌else◌}
use Rattle.words.specs.Lists.{first_that}
use Rattle.book.specs.Book.{Rec}
use Rattle.model.specs.Journal.{Backup}
use Rattle.model.specs.Audit.{applied}
use Rattle.model.specs.Read.{records_of, before_or}
use Rattle.model.specs.Plain.{maps_of}
use Rattle.claims.proofs.agreement.Agree.{images_of}
use Rattle.claims.proofs.kept.Sound.{Sound}
use Rattle.claims.proofs.kept.Replays.{map_after, Sounds}
use Rattle.model.specs.JournalAt.{first_before}
use Rattle.claims.proofs.kept.JournalAtLaws.{first_before_append}

-- one backup undone, and all of them
undone : (l : ℕ) (m : List ℕ) (rs : List Rec) → Sound m rs → first_before l rs (get_or (applied m rs) l unmapped) ≡ get_or m l unmapped
unfolding Sound
undone l m [] s = refl
undone l m (r ∷ rs) s = go (eqb r.lbn l) refl (undone l (set m r.lbn r.after) rs s.2)
  where
    go : (t : Bool) → eqb r.lbn l ≡ t
        → first_before l rs (get_or (applied (set m r.lbn r.after) rs) l unmapped) ≡ get_or (set m r.lbn r.after) l unmapped
        → before_or (get_or (applied (set m r.lbn r.after) rs) l unmapped) (when t then some r else first_that (λ r. eqb r.lbn l) rs)
        ≡ get_or m l unmapped
    go true e ih = s.1 ∙ ap (λ k. get_or m k unmapped) (eqb-true r.lbn l e)
    go false e ih = ih ∙ get_or-set_other m r.lbn l r.after unmapped (λ q. eqb-false r.lbn l e (sym q))

all_undone : (l : ℕ) (m : List ℕ) (bs : List Backup) → Sounds m bs
    → first_before l (records_of bs) (get_or (map_after m bs) l unmapped) ≡ get_or m l unmapped
unfolding Sounds
all_undone l m [] s = refl
all_undone l m (b ∷ bs) s =
    first_before_append l b.records (records_of bs) (get_or (map_after m (b ∷ bs)) l unmapped)
    ∙ ap (first_before l b.records) (all_undone l (applied m b.records) bs s.1)
    ∙ undone l m b.records s.0

-- those after backup k + 1 undone; z stands for a map past the end
pub read_rule : (l k : ℕ) (m z : List ℕ) (bs : List Backup) → Sounds m bs → k < length bs
    → first_before l (records_of (drop (suc k) bs)) (get_or (map_after m bs) l unmapped) ≡ get_or (get_or (maps_of (images_of m bs)) k z) l unmapped
unfolding Sounds
read_rule l k m z [] s h = absurd (omega arith)
read_rule l zero m z (b ∷ bs) s h = all_undone l (applied m b.records) bs s.1
read_rule l (suc k) m z (b ∷ bs) s h = read_rule l k (applied m b.records) z bs s.1 (omega arith)
