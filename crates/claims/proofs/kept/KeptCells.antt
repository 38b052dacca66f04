-- The law of KeptOwn.antt for a volume's backups and their images in the plain store.
use Prim.Native.Nat.{ℕ, ◌+◌}
use mathlib.Core.Path.{◌≡◌, refl, sym, ap₂, ◌∙◌}
use mathlib.Core.Logic.{◌≢◌}
use mathlib.Core.Bool.{Bool, false, ◌&&◌, ◌||◌}
use mathlib.Core.List.{List, [], ◌∷◌, map}
use mathlib.Core.Option.{Option, none, some}
use lib.Dec.{leb, eqb}
use lib.ListN.{get_or, replicate}
use borrow.Author.Tests.{ne_eqb}
use Rattle.words.specs.Blocks.{unmapped}
use Rattle.words.proofs.ChoiceLaws.{and_false, not_both}
use Rattle.words.proofs.Places.{get_or_replicated}
use Rattle.model.specs.Days.{kept_by}
use Rattle.model.specs.Journal.{Backup, since_of}
use Rattle.model.specs.Audit.{applied, due_of}
use Rattle.model.specs.Plain.{What, image, retirement, Taken, days_of}
use Rattle.claims.proofs.agreement.Agree.{images_of}
use Rattle.claims.proofs.kept.Sound.{Days}
use Rattle.claims.proofs.kept.KeptOwn
use Rattle.claims.proofs.kept.KeptOwn.{Item, Good, takes, null}
use Rattle.claims.proofs.kept.Replays.{map_after, Sounds, Linked}

-- a backup kept at day d, where r is the retention, has p at LBN l
abbrev pub has_at : ℕ → ℕ → What → Bool
has_at p l (image m) = eqb p (get_or m l unmapped)
has_at p l retirement = false

abbrev pub kept_at : ℕ → ℕ → ℕ → ℕ → List Taken → Bool
kept_at p r d l [] = false
kept_at p r d l (i ∷ is) = (kept_by i.day (days_of is) r d && has_at p l i.what) || kept_at p r d l is

-- the first record of l has the before p, in a backup that keeps what it replaced until day d
abbrev pub taken_at : ℕ → ℕ → ℕ → ℕ → List Backup → Bool
taken_at p r d l [] = false
taken_at p r d l (b ∷ bs) = (leb d (due_of r b) && takes p l b.records) || taken_at p r d l bs

-- ---- backups as KeptOwn has them

abbrev items : List Backup → List Item
items bs = map (λ (b : Backup). record { day = b.day; retire = false; records = b.records }) bs

same_kept : (p r d l : ℕ) (m : List ℕ) (bs : List Backup) → kept_at p r d l (images_of m bs) ≡ KeptOwn.kept_at p r d l m (items bs)
same_kept p r d l m [] = refl
same_kept p r d l m (b ∷ bs) =
    ap₂ (λ (k h : Bool). (k && eqb p (get_or (applied m b.records) l unmapped)) || h) (newest bs) (same_kept p r d l (applied m b.records) bs)
  where
    newest : (cs : List Backup) → kept_by b.day (days_of (images_of (applied m b.records) cs)) r d ≡ (null (items cs) || leb d (b.day + r))
    newest [] = refl
    newest (c ∷ cs) = refl

same_map : (m : List ℕ) (bs : List Backup) → map_after m bs ≡ KeptOwn.map_after m (items bs)
same_map m [] = refl
same_map m (b ∷ bs) = same_map (applied m b.records) bs

same_taken : (p r d l : ℕ) (prev : Option ℕ) (bs : List Backup) → Linked prev bs
    → taken_at p r d l bs ≡ KeptOwn.taken_at p r d l (some (since_of prev)) (items bs)
unfolding Linked
same_taken p r d l prev [] k = refl
same_taken p r d l prev (b ∷ bs) k =
    ap₂ (λ (a : Option ℕ) (h : Bool). (leb d (since_of a + r) && takes p l b.records) || h) k.0
    (same_taken p r d l (some b.day) bs k.1)

good : (m : List ℕ) (a e : ℕ) (bs : List Backup) → Sounds m bs → Days a bs e → Good m (some a) (items bs)
unfolding Good Sounds Days
good m a e [] s f = tt
good m a e (b ∷ bs) s f = (s.0, f.0, λ q. absurd (not_both false q refl), good (applied m b.records) b.day e bs s.1 f.1)

-- ---- the law, from a map of n cells that are all unmapped

pub kept-cell : (p r d l n e : ℕ) (bs : List Backup) → p ≢ unmapped → Sounds (replicate n unmapped) bs → Days 0 bs e → Linked none bs
    → kept_at p r d l (images_of (replicate n unmapped) bs)
    ≡ (eqb p (get_or (map_after (replicate n unmapped) bs) l unmapped) || taken_at p r d l bs)
kept-cell p r d l n e bs mapped s f k =
    let m = replicate n unmapped in
    let law = KeptOwn.kept-cell p r d l m (some 0) (items bs) mapped (good m 0 e bs s f) in
    let no : eqb p (get_or m l unmapped) ≡ false = ne_eqb p (get_or m l unmapped) (λ q. mapped (q ∙ get_or_replicated n unmapped l)) in
    same_kept p r d l m bs ∙ simp (no, and_false) at law
    ∙ ap₂ (λ (c : List ℕ) (h : Bool). eqb p (get_or c l unmapped) || h) (sym (same_map m bs)) (sym (same_taken p r d l none bs k))
