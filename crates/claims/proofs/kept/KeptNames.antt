-- Maps that name a block, and kept backups that do: at some LBN.
use Prim.Native.Nat.{ℕ, zero, suc}
use mathlib.Core.Path.{◌≡◌}
use mathlib.Core.Logic.{◌≢◌, ◌⊎◌, inl, inr}
use mathlib.Core.Bool.{true, ◌&&◌}
use mathlib.Core.List.{List, [], ◌∷◌}
use lib.Dec.{eqb}
use lib.ListN.{get_or}
use borrow.Author.Tests.{eqb-true}
use Rattle.words.specs.Blocks.{unmapped}
use Rattle.words.proofs.ChoiceLaws.{and_true, true_and, or_cases, or_l, or_r}
use Rattle.words.proofs.Places.{some-place}
use Rattle.model.specs.Days.{kept_by}
use Rattle.model.specs.Plain.{What, image, retirement, Taken, days_of, names, names_in, kept_names}
use Rattle.claims.proofs.kept.KeptCells.{has_at, kept_at}

pub names-cell : (p : ℕ) (m : List ℕ) → names p m ≡ true → (l : ℕ) × (eqb p (get_or m l unmapped) ≡ true)
names-cell p m e = let w = some-place (eqb p) m unmapped e in (w.0, w.2)

-- past its end a map is unmapped
pub cell-names : (p l : ℕ) (m : List ℕ) → p ≢ unmapped → eqb p (get_or m l unmapped) ≡ true → names p m ≡ true
cell-names p l [] n e = absurd (n (eqb-true p unmapped e))
cell-names p zero (x ∷ m) n e = or_l (eqb p x) (names p m) e
cell-names p (suc l) (x ∷ m) n e = or_r (eqb p x) (names p m) (cell-names p l m n e)

what-cell : (p : ℕ) (w : What) → names_in p w ≡ true → (l : ℕ) × (has_at p l w ≡ true)
what-cell p (image m) e = names-cell p m e
what-cell p retirement e = (0, e)

cell-what : (p l : ℕ) (w : What) → p ≢ unmapped → has_at p l w ≡ true → names_in p w ≡ true
cell-what p l (image m) n e = cell-names p l m n e
cell-what p l retirement n e = e

pub kept-names-cell : (p r d : ℕ) (is : List Taken) → kept_names p r d is ≡ true → (l : ℕ) × (kept_at p r d l is ≡ true)
kept-names-cell p r d [] e = (0, e)
kept-names-cell p r d (i ∷ is) e =
    go (or_cases (kept_by i.day (days_of is) r d && names_in p i.what) (kept_names p r d is) e) (kept-names-cell p r d is)
  where
    go : ((kept_by i.day (days_of is) r d && names_in p i.what) ≡ true) ⊎ (kept_names p r d is ≡ true)
        → (kept_names p r d is ≡ true → (l : ℕ) × (kept_at p r d l is ≡ true)) → (l : ℕ) × (kept_at p r d l (i ∷ is) ≡ true)
    go (inl a) ih =
        let c = and_true (kept_by i.day (days_of is) r d) (names_in p i.what) a in
        let w = what-cell p i.what c.1 in
        (w.0, search (or_l, true_and))
    go (inr b) ih = let w = ih b in (w.0, search or_r)

pub cell-kept-names : (p r d l : ℕ) (is : List Taken) → p ≢ unmapped → kept_at p r d l is ≡ true → kept_names p r d is ≡ true
cell-kept-names p r d l [] n e = e
cell-kept-names p r d l (i ∷ is) n e =
    go (or_cases (kept_by i.day (days_of is) r d && has_at p l i.what) (kept_at p r d l is) e) (cell-kept-names p r d l is n)
  where
    go : ((kept_by i.day (days_of is) r d && has_at p l i.what) ≡ true) ⊎ (kept_at p r d l is ≡ true)
        → (kept_at p r d l is ≡ true → kept_names p r d is ≡ true) → kept_names p r d (i ∷ is) ≡ true
    go (inl a) ih =
        let c = and_true (kept_by i.day (days_of is) r d) (has_at p l i.what) a in
        search (or_l, true_and, cell-what)
    go (inr b) ih = search or_r
