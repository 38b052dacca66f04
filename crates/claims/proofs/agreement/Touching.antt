-- Records whose LBNs rise: each before is the old map's cell and each after the new one's, so a block that no change names is in none.
use Prim.Native.Nat.{ℕ, suc, ◌≤◌, ◌<◌}
use mathlib.Core.Path.{◌≡◌, refl, sym, ap, ◌∙◌}
use mathlib.Core.Bool.{false, ◌||◌}
use mathlib.Core.List.{List, [], ◌∷◌, map}
use native.Mathlib.Omega.{arith}
use lib.Dec.{eqb}
use lib.ListN.{get_or, set}
use lib.Seq.{get_or-set_same, get_or-set_other}
use Rattle.words.specs.Blocks.{unmapped}
use Rattle.words.specs.Lists.{some_of}
use Rattle.words.proofs.Tests.{eqb_swap, some_neither}
use Rattle.book.specs.Book.{Rec}
use Rattle.model.specs.Audit.{applied, has_before}
use Rattle.claims.proofs.kept.Sound.{Sound, Rising}
use Rattle.claims.proofs.agreement.Trail.{has_after}

-- a cell below all LBNs stays
applied-below : (a l : ℕ) (m : List ℕ) (rs : List Rec) → l < a → Rising a rs → get_or (applied m rs) l unmapped ≡ get_or m l unmapped
unfolding Rising
applied-below a l m [] h s = refl
applied-below a l m (r ∷ rs) h s =
    let k : a ≤ r.lbn = s.0 in
    applied-below (suc r.lbn) l (set m r.lbn r.after) rs (omega arith) s.1
    ∙ get_or-set_other m r.lbn l r.after unmapped (λ (e : l ≡ r.lbn). omega arith)

module _ (p : ℕ) where
  -- m agrees with the old map from a up
  befores-old : (a : ℕ) (old m : List ℕ) (rs : List Rec) → Sound m rs → Rising a rs
      → ((l : ℕ) → a ≤ l → get_or m l unmapped ≡ get_or old l unmapped)
      → has_before p rs ≡ some_of (λ l. eqb p (get_or old l unmapped)) (map (λ (r : Rec). r.lbn) rs)
  unfolding Sound Rising
  befores-old a old m [] s up e = refl
  befores-old a old m (r ∷ rs) s up e =
      let k : a ≤ r.lbn = up.0 in
      let ih = befores-old (suc r.lbn) old (set m r.lbn r.after) rs s.2 up.1
      (λ l h. get_or-set_other m r.lbn l r.after unmapped (λ (z : l ≡ r.lbn). omega arith) ∙ e l (omega arith)) in
      let b : eqb r.before p ≡ eqb p (get_or old r.lbn unmapped) = eqb_swap r.before p ∙ ap (eqb p) (s.1 ∙ e r.lbn k) in
      rw (b, ih)

  afters-new : (a : ℕ) (m : List ℕ) (rs : List Rec) → Sound m rs → Rising a rs
      → has_after p rs ≡ some_of (λ l. eqb p (get_or (applied m rs) l unmapped)) (map (λ (r : Rec). r.lbn) rs)
  unfolding Sound Rising
  afters-new a m [] s up = refl
  afters-new a m (r ∷ rs) s up =
      let next = set m r.lbn r.after in
      let ih = afters-new (suc r.lbn) next rs s.2 up.1 in
      let c : get_or (applied next rs) r.lbn unmapped ≡ r.after =
      applied-below (suc r.lbn) r.lbn next rs (omega arith) up.1 ∙ get_or-set_same m r.lbn r.after unmapped s.0 in
      let b : eqb r.after p ≡ eqb p (get_or (applied next rs) r.lbn unmapped) = eqb_swap r.after p ∙ ap (eqb p) (sym c) in
      rw (b, ih)

  -- a block that no change names
  pub unnamed : (m : List ℕ) (rs : List Rec) → Sound m rs → Rising 0 rs
      → some_of (λ l. eqb p (get_or m l unmapped) || eqb p (get_or (applied m rs) l unmapped)) (map (λ (r : Rec). r.lbn) rs) ≡ false
      → (has_before p rs ≡ false) × (has_after p rs ≡ false)
  unnamed m rs s up e =
      let n =
      some_neither (λ l. eqb p (get_or m l unmapped)) (λ l. eqb p (get_or (applied m rs) l unmapped))
      (map (λ (r : Rec). r.lbn) rs) e in
      (befores-old 0 m m rs s up (λ l h. refl) ∙ n.0, afters-new 0 m rs s up ∙ n.1)
