-- Laws of the pairs of a list: their runs of LBNs one after the other, and what it takes for them to fit.
use Prim.Native.Nat.{ℕ, zero, suc, ◌+◌, ◌-◌, ◌≤◌, ◌<◌, zero-le}
use mathlib.Core.Path.{◌≡◌, refl, ap, sym, ◌∙◌}
use mathlib.Core.Logic.{⊎_elim}
use mathlib.Core.Bool.{true, not, ◌&&◌}
use mathlib.Core.List.{List, [], ◌∷◌, map}
use native.Mathlib.Nat.{not-suc-le-zero, le_of_suc-le-suc, zero-add, pos_of_ne-zero}
use native.Mathlib.Omega.{arith}
use lib.Dec.{leb, eqb}
use lib.ListN.{length, get_or, take, length-append, get_or-append}
use lib.Seq.{get_or-append-add}
use borrow.Author.Tests.{leb-true, eqb-false, not-true}
use Rattle.words.proofs.ChoiceLaws.{and_true}
use Rattle.words.specs.Lists.{sum, joined}
use Rattle.words.proofs.Ranges.{length-up_from, get_or-up_from, below_or_not}
use Rattle.words.proofs.SectionLaws.{length-tab, get_or-tab}
use Rattle.runs.specs.Changes.{Pair, pair_count, pair_at, pairs, run, lengths, max_run, pair_fits, pairs_fit}

-- ---- the pairs of any bytes
module _ (b : List ℕ) where
  pub length_pairs : length (pairs b) ≡ pair_count b
  unfolding pairs
  length_pairs = length-tab (pair_count b) (pair_at b)

  pub get_or-pairs : (i : ℕ) (d : Pair) → i < pair_count b → get_or (pairs b) i d ≡ pair_at b i
  unfolding pairs
  get_or-pairs i d h = get_or-tab (pair_count b) (pair_at b) i d h

-- all LBNs of some pairs
abbrev pub runs : List Pair → List ℕ
runs ps = joined (map run ps)

pub length_runs : (ps : List Pair) → length (runs ps) ≡ sum (lengths ps)
length_runs [] = refl
length_runs (p ∷ ps) = let e = length_runs ps in rw (length-append, length-up_from) (omega arith)

-- an LBN of the first pair, and one of a later pair
module _ (p : Pair) (ps : List Pair) where
  pub first_run : (i : ℕ) → i < p.many → get_or (runs (p ∷ ps)) i 0 ≡ p.first + i
  first_run i h = get_or-append (run p) (runs ps) 0 i (rw length-up_from h) ∙ get_or-up_from p.first p.many i h

  pub later-run : (i : ℕ) → get_or (runs (p ∷ ps)) (p.many + i) 0 ≡ get_or (runs ps) i 0
  later-run i =
      ap (λ (m : ℕ). get_or (runs (p ∷ ps)) (m + i) 0) (sym (length-up_from p.first p.many))
      ∙ get_or-append-add (run p) (runs ps) i 0

  pub later-from : (i : ℕ) → p.many ≤ i → get_or (runs (p ∷ ps)) i 0 ≡ get_or (runs ps) (i - p.many) 0
  later-from i h = ap (λ (m : ℕ). get_or (runs (p ∷ ps)) m 0) (omega arith) ∙ later-run (i - p.many)

-- the LBN with w of pair k's before it
pub run_at : (ps : List Pair) (k w : ℕ) (d : Pair) → k < length ps → w < (get_or ps k d).many
    → get_or (runs ps) (sum (lengths (take k ps)) + w) 0 ≡ (get_or ps k d).first + w
run_at [] k w d h j = absurd (not-suc-le-zero h)
run_at (p ∷ ps) zero w d h j = rw zero-add (first_run p ps w j)
run_at (p ∷ ps) (suc k) w d h j =
    ap (λ (m : ℕ). get_or (runs (p ∷ ps)) m 0) (omega arith)
    ∙ later-run p ps (sum (lengths (take k ps)) + w)
    ∙ run_at ps k w d (le_of_suc-le-suc h) j

-- what it says that a pair fits
pub record Fits (L end first many : ℕ) : Type 0 where
  pub some : 0 < many
  pub short : many ≤ max_run
  pub after : end ≤ first
  pub within : first + many ≤ L

pub pair_fits_lem : (L end first many : ℕ) → pair_fits L end first many ≡ true → Fits L end first many
pair_fits_lem L end first many e =
    let own = and_true (not (eqb many 0) && leb many max_run && leb end first) (leb (first + many) L) e in
    let low = and_true (not (eqb many 0) && leb many max_run) (leb end first) own.0 in
    let size = and_true (not (eqb many 0)) (leb many max_run) low.0 in
    record {
      some = pos_of_ne-zero (eqb-false many 0 (not-true (eqb many 0) size.0));
      short = leb-true many max_run size.1;
      after = leb-true end first low.1;
      within = leb-true (first + many) L own.1;
    }

module _ (L : ℕ) where
  first_fits : (end : ℕ) (p : Pair) (ps : List Pair) → pairs_fit L end (p ∷ ps) ≡ true → Fits L end p.first p.many
  first_fits end p ps e =
      pair_fits_lem L end p.first p.many
      (and_true (pair_fits L end p.first p.many) (pairs_fit L (p.first + p.many) ps) e).0

  rest-fit : (end : ℕ) (p : Pair) (ps : List Pair) → pairs_fit L end (p ∷ ps) ≡ true → pairs_fit L (p.first + p.many) ps ≡ true
  rest-fit end p ps e = (and_true (pair_fits L end p.first p.many) (pairs_fit L (p.first + p.many) ps) e).1

  -- pairs that fit have no more blocks than L, and each has one at least
  pub fit-sum : (end : ℕ) (ps : List Pair) → end ≤ L → pairs_fit L end ps ≡ true → end + sum (lengths ps) ≤ L
  fit-sum end [] h e = omega arith
  fit-sum end (p ∷ ps) h e =
      let f = first_fits end p ps e in
      let r = fit-sum (p.first + p.many) ps f.within (rest-fit end p ps e) in
      omega arith

  pub fit_count : (end : ℕ) (ps : List Pair) → pairs_fit L end ps ≡ true → length ps ≤ sum (lengths ps)
  fit_count end [] e = zero-le
  fit_count end (p ∷ ps) e =
      let f = first_fits end p ps e in
      let r = fit_count (p.first + p.many) ps (rest-fit end p ps e) in
      omega arith

  pub fit-each : (end : ℕ) (ps : List Pair) (d : Pair) (k : ℕ) → pairs_fit L end ps ≡ true → k < length ps
      → (0 < (get_or ps k d).many) × ((get_or ps k d).many ≤ max_run) × ((get_or ps k d).first + (get_or ps k d).many ≤ L)
  fit-each end [] d k e h = absurd (not-suc-le-zero h)
  fit-each end (p ∷ ps) d zero e h = let f = first_fits end p ps e in (f.some, f.short, f.within)
  fit-each end (p ∷ ps) d (suc k) e h = fit-each (p.first + p.many) ps d k (rest-fit end p ps e) (le_of_suc-le-suc h)

  -- their LBNs lie from `end` to L, and rise
  pub fit-bounds : (end : ℕ) (ps : List Pair) (i : ℕ) → pairs_fit L end ps ≡ true → i < sum (lengths ps)
      → (end ≤ get_or (runs ps) i 0) × (get_or (runs ps) i 0 < L)
  fit-bounds end [] i e h = absurd (not-suc-le-zero h)
  fit-bounds end (p ∷ ps) i e h =
      ⊎_elim
      here
      (λ a. there a (fit-bounds (p.first + p.many) ps (i - p.many) (rest-fit end p ps e) (omega arith)))
      (below_or_not i p.many)
    where
      f : Fits L end p.first p.many
      f = first_fits end p ps e

      here : i < p.many → (end ≤ get_or (runs (p ∷ ps)) i 0) × (get_or (runs (p ∷ ps)) i 0 < L)
      here a = let g = f in rw (first_run p ps i a) (omega arith)

      there : p.many ≤ i → (p.first + p.many ≤ get_or (runs ps) (i - p.many) 0) × (get_or (runs ps) (i - p.many) 0 < L)
          → (end ≤ get_or (runs (p ∷ ps)) i 0) × (get_or (runs (p ∷ ps)) i 0 < L)
      there a r = let g = f in rw (later-from p ps i a) (omega arith)

  pub fit-rise : (end : ℕ) (ps : List Pair) (i j : ℕ) → pairs_fit L end ps ≡ true → i < j → j < sum (lengths ps)
      → get_or (runs ps) i 0 < get_or (runs ps) j 0
  fit-rise end [] i j e h k = absurd (not-suc-le-zero k)
  fit-rise end (p ∷ ps) i j e h k =
      ⊎_elim
      (λ a. rw (first_run p ps i (omega arith), first_run p ps j a) (omega arith))
      (λ a. rw (later-from p ps j a) (⊎_elim
      (λ b. rw (first_run p ps i b) (omega (arith, fit-bounds (p.first + p.many) ps (j - p.many) (rest-fit end p ps e) (omega arith))))
      (λ b. rw (later-from p ps i b)
      (fit-rise (p.first + p.many) ps (i - p.many) (j - p.many) (rest-fit end p ps e) (omega arith) (omega arith)))
      (below_or_not i p.many)))
      (below_or_not j p.many)
