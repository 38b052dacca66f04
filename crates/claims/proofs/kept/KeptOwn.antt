-- One cell of a volume over its slots: a kept backup has block p there exactly when the map after them has it, or a record that still reaches
-- the day took it away. A stay of p at the cell ends by the record that takes it away; the image before that record has the latest day of the stay,
-- and it is the day that step 3 counts from. The last slot may retire the volume, which unmaps all and is no backup; where the day before the
-- first slot isn't known, nothing is due by it.
use Prim.Native.Nat.{ℕ, ◌+◌, ◌≤◌}
use mathlib.Core.Path.{◌≡◌, refl, sym, ◌∙◌}
use mathlib.Core.Logic.{◌≢◌}
use mathlib.Core.Bool.{Bool, true, false, not, ◌&&◌, ◌||◌}
use mathlib.Core.List.{List, [], ◌∷◌}
use mathlib.Core.Option.{Option, none, some}
use native.Mathlib.Omega.{arith}
use lib.Dec.{leb, eqb}
use lib.ListN.{get_or, set}
use lib.Seq.{get_or-set_other}
use borrow.Author.Tests.{eqb-true, eqb-false, eq-eqb, ne_eqb, leb-true, le-leb}
use Rattle.words.specs.Blocks.{unmapped}
use Rattle.words.specs.Choice.{when◌then◌else◌}
use Rattle.book.specs.Book.{Rec}
use Rattle.model.specs.Audit.{applied}
use Rattle.claims.proofs.kept.Sound.{Sound}

-- the first record of l has the before p
abbrev pub takes : ℕ → ℕ → List Rec → Bool
takes p l [] = false
takes p l (c ∷ cs) = when eqb c.lbn l then eqb c.before p else takes p l cs

pub record Item : Type 0 where
  pub day : ℕ
  pub retire : Bool
  pub records : List Rec

abbrev pub due_by : Option ℕ → ℕ → ℕ → Bool
due_by none r d = false
due_by (some a) r d = leb d (a + r)

abbrev pub null : List Item → Bool
null [] = true
null (b ∷ bs) = false

abbrev pub map_after : List ℕ → List Item → List ℕ
map_after m [] = m
map_after m (b ∷ bs) = map_after (applied m b.records) bs

-- a kept backup has p at l: the newest is exempt while no slot of the volume follows it
abbrev pub kept_at : ℕ → ℕ → ℕ → ℕ → List ℕ → List Item → Bool
kept_at p r d l m [] = false
kept_at p r d l m (b ∷ bs) =
    (not b.retire && ((null bs || leb d (b.day + r)) && eqb p (get_or (applied m b.records) l unmapped)))
    || kept_at p r d l (applied m b.records) bs

abbrev pub taken_at : ℕ → ℕ → ℕ → ℕ → Option ℕ → List Item → Bool
taken_at p r d l prev [] = false
taken_at p r d l prev (b ∷ bs) = (due_by prev r d && takes p l b.records) || taken_at p r d l (some b.day) bs

abbrev pub After : Option ℕ → ℕ → Type 0
After none e = Unit {0}
After (some a) e = a ≤ e

unfoldable pub Good : List ℕ → Option ℕ → List Item → Type 0
Good m prev [] = Unit {0}
Good m prev (b ∷ bs) =
    Sound m b.records
    × After prev b.day
    × (b.retire ≡ true → (bs ≡ []) × ((l : ℕ) → get_or (applied m b.records) l unmapped ≡ unmapped))
    × Good (applied m b.records) (some b.day) bs

takes-was : (p l : ℕ) (m : List ℕ) (cs : List Rec) → Sound m cs → takes p l cs ≡ true → p ≡ get_or m l unmapped
unfolding Sound
takes-was p l m [] s e = cc
takes-was p l m (c ∷ cs) s e = go (eqb c.lbn l) refl e (takes-was p l (set m c.lbn c.after) cs s.2)
  where
    go : (t : Bool) → eqb c.lbn l ≡ t → (when t then eqb c.before p else takes p l cs) ≡ true
        → (takes p l cs ≡ true → p ≡ get_or (set m c.lbn c.after) l unmapped) → p ≡ get_or m l unmapped
    go true f e ih = let a = eqb-true c.lbn l f in let b = eqb-true c.before p e in let z = s.1 in cc
    go false f e ih = ih e ∙ get_or-set_other m c.lbn l c.after unmapped (λ q. eqb-false c.lbn l f (sym q))

leaves : (p l : ℕ) (m : List ℕ) (cs : List Rec) → Sound m cs → takes p l cs ≡ false → p ≡ get_or m l unmapped → p ≡ get_or (applied m cs) l unmapped
unfolding Sound
leaves p l m [] s e h = h
leaves p l m (c ∷ cs) s e h = go (eqb c.lbn l) refl e (leaves p l (set m c.lbn c.after) cs s.2)
  where
    go : (t : Bool) → eqb c.lbn l ≡ t → (when t then eqb c.before p else takes p l cs) ≡ false
        → (takes p l cs ≡ false → p ≡ get_or (set m c.lbn c.after) l unmapped → p ≡ get_or (applied (set m c.lbn c.after) cs) l unmapped)
        → p ≡ get_or (applied (set m c.lbn c.after) cs) l unmapped
    go true f e ih = absurd (eqb-false c.before p e (let a = eqb-true c.lbn l f in let b = s.1 in cc))
    go false f e ih = ih e (h ∙ sym (get_or-set_other m c.lbn l c.after unmapped (λ q. eqb-false c.lbn l f (sym q))))

-- due now, due at the next image's day
due-rises : (prev : Option ℕ) (r d e : ℕ) → After prev e → due_by prev r d ≡ true → leb d (e + r) ≡ true
due-rises none r d e h k = let z : ◌≡◌ {A = Bool} false true = k in cc
due-rises (some a) r d e h k = le-leb d (e + r) (let z = leb-true d (a + r) k in omega arith)

either : (k o w n h : Bool) → (o ≡ true → w ≡ true) → (k ≡ true → o ≡ false → w ≡ true → (n || h) ≡ true)
    → ((k && w) || (n || h)) ≡ (n || ((k && o) || h))
either false o w n h a b = refl
either true true true true h a b = refl
either true true true false h a b = refl
either true true false n h a b = let z = a refl in cc
either true false true n h a b = sym (b refl refl refl)
either true false false n h a b = refl

or_yes : (t : Bool) → (t || true) ≡ true
or_yes true = refl
or_yes false = refl

same-two : (o w : Bool) → (o ≡ true → w ≡ true) → (o ≡ false → w ≡ true → ⊥) → w ≡ o
same-two true w a b = a refl
same-two false true a b = absurd (b refl refl)
same-two false false a b = refl

pub kept-cell : (p r d l : ℕ) (m : List ℕ) (prev : Option ℕ) (bs : List Item) → p ≢ unmapped → Good m prev bs
    → (((null bs || due_by prev r d) && eqb p (get_or m l unmapped)) || kept_at p r d l m bs)
    ≡ (eqb p (get_or (map_after m bs) l unmapped) || taken_at p r d l prev bs)
unfolding Good
kept-cell p r d l m prev [] n g = refl
kept-cell p r d l m prev (b ∷ bs) n g = go (kept-cell p r d l (applied m b.records) (some b.day) bs n g.3) b.retire refl
  where
    m' : List ℕ
    m' = applied m b.records

    k : Bool
    k = due_by prev r d

    o : Bool
    o = takes p l b.records

    w : Bool
    w = eqb p (get_or m l unmapped)

    was : o ≡ true → w ≡ true
    was e = eq-eqb p (get_or m l unmapped) (takes-was p l m b.records g.0 e)

    Ih : Type 0
    Ih = (((null bs || leb d (b.day + r)) && eqb p (get_or m' l unmapped)) || kept_at p r d l m' bs)
        ≡ (eqb p (get_or (map_after m' bs) l unmapped) || taken_at p r d l (some b.day) bs)

    next : Ih → k ≡ true → o ≡ false → w ≡ true → (eqb p (get_or (map_after m' bs) l unmapped) || taken_at p r d l (some b.day) bs) ≡ true
    next ih x y z =
        sym ih
        ∙ rw (due-rises prev r d b.day g.1 x, or_yes (null bs), eq-eqb p (get_or m' l unmapped) (leaves p l m b.records g.0 y (eqb-true p (get_or m l unmapped) z)))

    ended : b.retire ≡ true → ((k && w) || kept_at p r d l m' bs) ≡ (eqb p (get_or (map_after m' bs) l unmapped) || ((k && o) || taken_at p r d l (some b.day) bs))
    ended e =
        let x = g.2 e in
        let gone : eqb p (get_or m' l unmapped) ≡ false = ne_eqb p (get_or m' l unmapped) (λ q. n (q ∙ x.1 l)) in
        let s : w ≡ o = same-two o w was (λ y z. n (leaves p l m b.records g.0 y (eqb-true p (get_or m l unmapped) z) ∙ x.1 l)) in
        rw (x.0, gone, s)

    go : Ih → (t : Bool) → b.retire ≡ t
        → ((k && w) || ((not t && ((null bs || leb d (b.day + r)) && eqb p (get_or m' l unmapped))) || kept_at p r d l m' bs))
        ≡ (eqb p (get_or (map_after m' bs) l unmapped) || ((k && o) || taken_at p r d l (some b.day) bs))
    go ih false e = rw ih (either k o w (eqb p (get_or (map_after m' bs) l unmapped)) (taken_at p r d l (some b.day) bs) was (next ih))
    go ih true e = ended e
