-- Backups that reach a day and took a block away: by expiry, by volume and LBN, and on a later day.
use Prim.Native.Nat.{ℕ, suc, ◌≤◌, ◌<◌}
use mathlib.Core.Path.{◌≡◌, refl, ◌∙◌}
use mathlib.Core.Logic.{◌⊎◌, inl, inr}
use mathlib.Core.Bool.{Bool, true, false, ◌&&◌, ◌||◌}
use mathlib.Core.List.{List, [], ◌∷◌}
use native.Mathlib.Omega.{arith}
use lib.Dec.{leb, eqb}
use lib.ListN.{length, get_or, set, length-set}
use borrow.Author.Tests.{eqb-true, eq-eqb, ne_eqb, leb-true, leb-false, lt-leb}
use Rattle.words.specs.Choice.{when◌then◌else◌}
use Rattle.words.proofs.ChoiceLaws.{and_true, true_and, or_cases, or_l, or_r, and_false, and_yes, nat_le_max, not_both}
use Rattle.words.specs.Lists.{some_of}
use Rattle.book.specs.Book.{Rec, Book, retention_of}
use Rattle.model.specs.Journal.{Backup, slots_in}
use Rattle.model.specs.Audit.{applied, has_before, due_of, until_in}
use Rattle.claims.proofs.kept.Sound.{SoundAll, Rising, AllRise}
use Rattle.claims.proofs.kept.KeptOwn.{takes}
use Rattle.claims.proofs.kept.KeptCells.{taken_at}

-- the backup reaches day d and has a record with before p
abbrev pub reaches_by : Book → ℕ → ℕ → Backup → Bool
reaches_by x d p b = leb d (due_of (retention_of x b.volume) b) && has_before p b.records

-- ---- expiry is the last day that is reached

pub until-reaches : (x : Book) (d p : ℕ) (bs : List Backup) → 0 < d → leb d (until_in x p bs) ≡ some_of (reaches_by x d p) bs
until-reaches x d p [] h = lt-leb d 0 h
until-reaches x d p (b ∷ bs) h =
    nat_le_max d (when has_before p b.records then due_of (retention_of x b.volume) b else 0) (until_in x p bs)
    ∙ rw (until-reaches x d p bs h) (go (has_before p b.records))
  where
    go : (o : Bool) → (leb d (when o then due_of (retention_of x b.volume) b else 0) || some_of (reaches_by x d p) bs)
        ≡ ((leb d (due_of (retention_of x b.volume) b) && o) || some_of (reaches_by x d p) bs)
    go true = rw (and_yes (leb d (due_of (retention_of x b.volume) b)))
    go false = rw (lt-leb d 0 h, and_false)

-- ---- a later day is reached by fewer

pub reached-earlier : (x : Book) (d e p : ℕ) (bs : List Backup) → d ≤ e → some_of (reaches_by x d p) bs ≡ false
    → some_of (reaches_by x e p) bs ≡ false
reached-earlier x d e p [] h f = refl
reached-earlier x d e p (b ∷ bs) h f =
    go (leb d u) (leb e u) (has_before p b.records) refl refl f (reached-earlier x d e p bs h)
  where
    u : ℕ
    u = due_of (retention_of x b.volume) b

    go : (j k w : Bool) → leb d u ≡ j → leb e u ≡ k → ((j && w) || some_of (reaches_by x d p) bs) ≡ false
        → (some_of (reaches_by x d p) bs ≡ false → some_of (reaches_by x e p) bs ≡ false) → ((k && w) || some_of (reaches_by x e p) bs) ≡ false
    go j k false q r f ih = simp and_false (ih (simp and_false at f))
    go true k true q r f ih = absurd (not_both true refl f)
    go false true true q r f ih = absurd (omega (arith, leb-false d u q, leb-true e u r))
    go false false true q r f ih = ih f

-- ---- in one volume and at one LBN

takes-before : (p l : ℕ) (cs : List Rec) → takes p l cs ≡ true → has_before p cs ≡ true
takes-before p l [] e = e
takes-before p l (c ∷ cs) e = go (eqb c.lbn l) e (takes-before p l cs)
  where
    go : (t : Bool) → (when t then eqb c.before p else takes p l cs) ≡ true → (takes p l cs ≡ true → has_before p cs ≡ true)
        → has_before p (c ∷ cs) ≡ true
    go true e ih = or_l (eqb c.before p) (has_before p cs) e
    go false e ih = or_r (eqb c.before p) (has_before p cs) (ih e)

-- LBNs that rise occur once each
before-takes : (a p : ℕ) (cs : List Rec) → Rising a cs → has_before p cs ≡ true → (l : ℕ) × (a ≤ l) × (takes p l cs ≡ true)
unfolding Rising
before-takes a p [] s e = (a, omega arith, e)
before-takes a p (c ∷ cs) s e = go (or_cases (eqb c.before p) (has_before p cs) e) (before-takes (suc c.lbn) p cs s.1)
  where
    go : (eqb c.before p ≡ true) ⊎ (has_before p cs ≡ true)
        → (has_before p cs ≡ true → (l : ℕ) × (suc c.lbn ≤ l) × (takes p l cs ≡ true)) → (l : ℕ) × (a ≤ l) × (takes p l (c ∷ cs) ≡ true)
    go (inl y) ih = (c.lbn, s.0, rw (eq-eqb c.lbn c.lbn refl) y)
    go (inr y) ih =
        let w = ih y in
        (w.0, (let q = w.1 in let z = s.0 in omega arith), rw (ne_eqb c.lbn w.0 (λ z. let q = w.1 in omega arith)) w.2)

pub taken-reaches : (x : Book) (d p v l : ℕ) (bs : List Backup) → taken_at p (retention_of x v) d l (slots_in v bs) ≡ true
    → some_of (reaches_by x d p) bs ≡ true
taken-reaches x d p v l [] e = e
taken-reaches x d p v l (b ∷ bs) e = go (eqb b.volume v) refl e (taken-reaches x d p v l bs)
  where
    step : b.volume ≡ v
        → ((leb d (due_of (retention_of x v) b) && takes p l b.records) ≡ true) ⊎ (taken_at p (retention_of x v) d l (slots_in v bs) ≡ true)
        → (taken_at p (retention_of x v) d l (slots_in v bs) ≡ true → some_of (reaches_by x d p) bs ≡ true)
        → some_of (reaches_by x d p) (b ∷ bs) ≡ true
    step q (inl a) ih =
        let c = and_true (leb d (due_of (retention_of x v) b)) (takes p l b.records) a in
        or_l (reaches_by x d p b) (some_of (reaches_by x d p) bs)
        (rw q (true_and (leb d (due_of (retention_of x v) b)) (has_before p b.records) c.0 (takes-before p l b.records c.1)))
    step q (inr y) ih = or_r (reaches_by x d p b) (some_of (reaches_by x d p) bs) (ih y)

    go : (t : Bool) → eqb b.volume v ≡ t → taken_at p (retention_of x v) d l (when t then b ∷ slots_in v bs else slots_in v bs) ≡ true
        → (taken_at p (retention_of x v) d l (slots_in v bs) ≡ true → some_of (reaches_by x d p) bs ≡ true)
        → some_of (reaches_by x d p) (b ∷ bs) ≡ true
    go true q e ih =
        step (eqb-true b.volume v q)
        (or_cases (leb d (due_of (retention_of x v) b) && takes p l b.records) (taken_at p (retention_of x v) d l (slots_in v bs)) e) ih
    go false q e ih = or_r (reaches_by x d p b) (some_of (reaches_by x d p) bs) (ih e)

-- where a record with before p stands: its volume and its LBN
pub reaches-taken : (x : Book) (d p : ℕ) (ms : List (List ℕ)) (bs : List Backup) → SoundAll ms bs → AllRise bs
    → some_of (reaches_by x d p) bs ≡ true
    → (v : ℕ) × (v < length ms) × ((l : ℕ) × (taken_at p (retention_of x v) d l (slots_in v bs) ≡ true))
unfolding SoundAll AllRise
reaches-taken x d p ms [] s r e = absurd (not_both false e refl)
reaches-taken x d p ms (b ∷ bs) s r e =
    go (or_cases (reaches_by x d p b) (some_of (reaches_by x d p) bs) e)
    (reaches-taken x d p (set ms b.volume (applied (get_or ms b.volume []) b.records)) bs s.2 r.1)
  where
    keep : (v l : ℕ) → taken_at p (retention_of x v) d l (slots_in v bs) ≡ true → (t : Bool)
        → taken_at p (retention_of x v) d l (when t then b ∷ slots_in v bs else slots_in v bs) ≡ true
    keep v l e true = or_r (leb d (due_of (retention_of x v) b) && takes p l b.records) (taken_at p (retention_of x v) d l (slots_in v bs)) e
    keep v l e false = e

    go : (reaches_by x d p b ≡ true) ⊎ (some_of (reaches_by x d p) bs ≡ true)
        → (some_of (reaches_by x d p) bs ≡ true
        → (v : ℕ) × (v < length (set ms b.volume (applied (get_or ms b.volume []) b.records)))
        × ((l : ℕ) × (taken_at p (retention_of x v) d l (slots_in v bs) ≡ true)))
        → (v : ℕ) × (v < length ms) × ((l : ℕ) × (taken_at p (retention_of x v) d l (slots_in v (b ∷ bs)) ≡ true))
    go (inl y) ih =
        let c = and_true (leb d (due_of (retention_of x b.volume) b)) (has_before p b.records) y in
        let w = before-takes 0 p b.records r.0 c.1 in
        (b.volume, s.0, (w.0, rw (eq-eqb b.volume b.volume refl) (search (or_l, true_and))))
    go (inr y) ih =
        let w = ih y in
        (w.0, simp length-set at w.1, (w.2.0, keep w.0 w.2.0 w.2.1 (eqb b.volume w.0)))
