-- No current map and no kept backup names a free block.
use Prim.Native.Nat.{ℕ, suc, ◌<◌, ◌-◌}
use mathlib.Core.Path.{◌≡◌, refl, sym, ap, ◌∙◌}
use mathlib.Core.Logic.{◌⊎◌, inl, inr}
use mathlib.Core.Bool.{Bool, true, false, ◌||◌}
use mathlib.Core.List.{List, []}
use lib.Dec.{ltb, eqb}
use lib.ListN.{get_or}
use borrow.Author.Tests.{eq-eqb, ltb-true, not-true}
use Rattle.words.specs.Blocks.{unmapped}
use Rattle.words.proofs.ChoiceLaws.{or_cases, or_l, or_r, not_both}
use Rattle.words.specs.Lists.{some_of}
use Rattle.words.proofs.Places.{place-some}
use Rattle.book.specs.Book.{volumes, Book, entry_at, cell_at, retention_of}
use Rattle.book.specs.Form.{pbn_ok}
use Rattle.model.specs.Days.{kept}
use Rattle.model.specs.Journal.{journal, slots_in, days, backup_count}
use Rattle.model.specs.Audit.{cell_sound}
use Rattle.model.specs.Plain.{Plain, taken_of, maps_of, no_map, names, cell}
use Rattle.claims.proofs.agreement.Agree.{Agree, named, reaches}
use Rattle.claims.proofs.agreement.AgreeLaws.{days-agree, backups-agree, ends-agree, cell_agree}
use Rattle.claims.proofs.kept.KeptCells.{kept_at, taken_at}
use Rattle.claims.proofs.kept.KeptNames.{cell-names}
use Rattle.claims.proofs.kept.KeptNumbers.{number-kept}
use Rattle.claims.proofs.kept.Reaches.{taken-reaches}
use Rattle.claims.proofs.kept.Marks.{named_none, pbn_mapped, kept-cell-agree}
use Rattle.claims.proofs.form.Bounds.{image-cells}
use native.Mathlib.Omega.{arith}

module _ {x : Book} {pool : List ℕ} {q : Plain} (g : Agree x pool q) where
  -- a free block is named by no current map, and was taken by no backup that reaches the day
  not_named : (p v l : ℕ) → p < x.sizes.n → v < volumes → eqb p (cell_at x.maps v l) ≡ true → (entry_at x.entries p).held ≡ false → ⊥
  not_named p v l h hv e f =
      let n = pbn_mapped x p g.fit.sizes h in
      not_both (some_of (names p) x.maps)
      (place-some (names p) x.maps [] v (rw g.fit.sized.maps hv) (cell-names p l (get_or x.maps v []) n e))
      (not-true (some_of (names p) x.maps) (sym (named_none x p) ∙ eq-eqb (named x p) 0 (g.free p h f).0))

  not_taken : (p v l : ℕ) → p < x.sizes.n → taken_at p (retention_of x v) x.day l (slots_in v (journal x)) ≡ true
      → (entry_at x.entries p).held ≡ false → ⊥
  unfolding reaches
  not_taken p v l h e f = not_both (reaches x x.day p) (taken-reaches x x.day p v l (journal x) e) (g.free p h f).1

  -- a cell below N or unmapped, and what would be so were its block free
  held-unless : (p : ℕ) → pbn_ok x.sizes.n p ≡ true → (p < x.sizes.n → (entry_at x.entries p).held ≡ false → ⊥) → cell_sound x p ≡ true
  unfolding cell_sound pbn_ok
  held-unless p ok bad = go (or_cases (ltb p x.sizes.n) (eqb p unmapped) ok) (entry_at x.entries p).held refl
    where
      go : (ltb p x.sizes.n ≡ true) ⊎ (eqb p unmapped ≡ true) → (t : Bool) → (entry_at x.entries p).held ≡ t
          → (eqb p unmapped || t) ≡ true
      go (inr e) t f = or_l (eqb p unmapped) t e
      go (inl e) true f = or_r (eqb p unmapped) true refl
      go (inl e) false f = absurd (bad (ltb-true p x.sizes.n e) f)

  pub current-held : (v l : ℕ) → v < volumes → pbn_ok x.sizes.n (cell_at x.maps v l) ≡ true → cell_sound x (cell_at x.maps v l) ≡ true
  current-held v l hv ok =
      let p = cell_at x.maps v l in
      held-unless p ok (λ h f. not_named p v l h hv (eq-eqb p p refl) f)

  pub kept-held : (v k l : ℕ) → v < volumes → k < backup_count x v → kept (days x v) (retention_of x v) x.day (suc k) ≡ true
      → cell_sound x (cell q v (suc k) l) ≡ true
  kept-held v k l hv hk e = held-unless p ok bad
    where
      p : ℕ
      p = cell q v (suc k) l

      ok : pbn_ok x.sizes.n p ≡ true
      ok = ap (pbn_ok x.sizes.n) (cell_agree g v k l hv hk) ∙ image-cells x v k l g.fit.form

      here : (j : ℕ) → cell q v (suc j) l ≡ get_or (get_or (maps_of (taken_of v q.taken)) j (no_map x.sizes)) l unmapped
      here j =
          let one : suc j - 1 ≡ j = omega arith in
          ap (λ i. get_or (get_or (maps_of (taken_of v q.taken)) i (no_map q.sizes)) l unmapped) one
          ∙ ap (λ z. get_or (get_or (maps_of (taken_of v q.taken)) j (no_map z)) l unmapped) g.sizes

      kept_here : kept_at p (retention_of x v) x.day l (taken_of v q.taken) ≡ true
      kept_here =
          number-kept p (retention_of x v) x.day l k (no_map x.sizes) (taken_of v q.taken) (ends-agree g v hv) (
            rw (backups-agree g v hv) hk,
            rw (days-agree g v hv) e,
            eq-eqb p (get_or (get_or (maps_of (taken_of v q.taken)) k (no_map x.sizes)) l unmapped) (here k),
          )

      bad : p < x.sizes.n → (entry_at x.entries p).held ≡ false → ⊥
      bad h f =
          go (or_cases (eqb p (cell_at x.maps v l)) (taken_at p (retention_of x v) x.day l (slots_in v (journal x)))
          (sym (kept-cell-agree g x.day p v l (pbn_mapped x p g.fit.sizes h) hv) ∙ kept_here))
        where
          go : (eqb p (cell_at x.maps v l) ≡ true) ⊎ (taken_at p (retention_of x v) x.day l (slots_in v (journal x)) ≡ true) → ⊥
          go (inl e) = not_named p v l h hv e f
          go (inr e) = not_taken p v l h e f
