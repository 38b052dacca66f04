-- Laws of specs/Passing.antt: from left to right come the pairs of the list, and the reader takes them.
use Prim.Native.Nat.{ℕ, zero, suc, ◌+◌, ◌-◌, ◌*◌, ◌≤◌, ◌<◌}
use mathlib.Core.Path.{◌≡◌, refl, sym, ap, ap₂, ◌∙◌}
use mathlib.Core.Logic.{◌⊎◌, inl, inr}
use mathlib.Core.Bool.{Bool, true, false, ◌&&◌}
use mathlib.Core.List.{List, [], ◌∷◌, ◌++◌, append-nil, append_assoc}
use native.Mathlib.Omega.{arith}
use lib.Dec.{ltb, eqb}
use lib.ListN.{length}
use borrow.Author.Tests.{ltb-true, ltb-false, eqb-true, lt-ltb, le-ltb, le-leb, ne_eqb}
use Rattle.words.specs.Choice.{when◌then◌else◌}
use Rattle.words.specs.Lists.{bit}
use Rattle.words.proofs.ChoiceLaws.{and_true}
use Rattle.words.proofs.Prefixes.{bit-one}
use Rattle.words.proofs.Ranges.{below_or_not}
use Rattle.runs.specs.Changes.{Pair, max_run, pairs_fit}
use Rattle.runs.specs.Writer.{run_before, runs, pieces_from, marked_pairs}
use Rattle.runs.specs.Passing.{goes_on, ended_run, row_after, pairs_from}
use Rattle.runs.proofs.PieceLaws.{cut, cut_append, cut-before, pieces_more}

-- ---- a block goes on with a run where it is marked and finds room in it

module _ (k m : ℕ) where
  pub on-marked : goes_on k m ≡ true → m ≡ 1
  unfolding goes_on
  on-marked e = eqb-true m 1 (and_true (eqb m 1) (ltb k max_run) e).0

  pub on-short : goes_on k m ≡ true → k < max_run
  unfolding goes_on
  on-short e = ltb-true k max_run (and_true (eqb m 1) (ltb k max_run) e).1

  -- a marked block that doesn't go on finds the run full
  pub off-full : goes_on k m ≡ false → eqb m 1 ≡ true → max_run ≤ k
  unfolding goes_on
  off-full e u = ltb-false k max_run (rw u at e)

-- ---- they are the pieces of the longest runs

-- the open longest run has n blocks: s full pieces, and k blocks in the open piece
cut-from : (ms : List ℕ) (i s k n : ℕ) → n ≡ s * max_run + k → n ≤ i → k ≤ max_run → (k ≡ 0 → s ≡ 0)
    → cut (runs i n ms) ≡ pieces_from (i - n) s 0 ++ pairs_from i k ms
unfolding goes_on ended_run row_after
cut-from [] i s k n e h b z = cut-before i s k n e h b z
cut-from (m ∷ ms) i s k n e h b z = go (eqb m 1) (below_or_not k max_run) (cut-from ms (suc i))
  where
    f : suc i - suc n ≡ i - n
    f = omega arith

    go : (t : Bool) → (k < max_run) ⊎ (max_run ≤ k)
        → ((s k n : ℕ) → n ≡ s * max_run + k → n ≤ suc i → k ≤ max_run → (k ≡ 0 → s ≡ 0)
        → cut (runs (suc i) n ms) ≡ pieces_from (suc i - n) s 0 ++ pairs_from (suc i) k ms)
        → cut (when t then runs (suc i) (suc n) ms else run_before i n ++ runs (suc i) 0 ms)
        ≡ pieces_from (i - n) s 0
        ++ ((when t && ltb k max_run then [] else run_before i k) ++ pairs_from (suc i) (when t && ltb k max_run then k + 1 else bit t) ms)
    go true (inl less) ih =
        rw (lt-ltb k max_run less, ← f) (ih s (k + 1) (suc n) (omega arith) (omega arith) (omega arith) (λ z. absurd (omega arith)))
    go true (inr all) ih =
        let full : k ≡ max_run = omega arith in
        let rest = pairs_from (suc i) 1 ms in
        rw (le-ltb k max_run all)
        (ih (suc s) 1 (suc n) (omega arith) (omega arith) (omega arith) (λ z. absurd (omega arith))
        ∙ ap (λ (j : ℕ). pieces_from j (suc s) 0 ++ rest) f
        ∙ ap (λ (ps : List Pair). ps ++ rest) (pieces_more i s n (omega arith) h)
        ∙ append_assoc (pieces_from (i - n) s 0) (run_before i max_run) rest
        ∙ ap (λ (j : ℕ). pieces_from (i - n) s 0 ++ (run_before i j ++ rest)) (sym full))
    go false _ ih =
        cut_append (run_before i n) (runs (suc i) 0 ms)
        ∙ ap₂ (λ (ps qs : List Pair). ps ++ qs) (cut-before i s k n e h b z)
        (ih 0 0 0 (omega arith) (omega arith) (omega arith) (λ z. refl))
        ∙ append_assoc (pieces_from (i - n) s 0) (run_before i k) (pairs_from (suc i) 0 ms)

pub pairs-passed : (marks : List ℕ) → pairs_from 0 0 marks ≡ marked_pairs marks
unfolding marked_pairs
pairs-passed marks = sym (cut-from marks 0 0 0 0 (omega arith) (omega arith) (omega arith) (λ z. refl))

-- ---- the reader takes them as pairs of a volume of L blocks

fit-run : (L end i k : ℕ) (ps : List Pair) → k ≤ max_run → end + k ≤ i → i ≤ L → pairs_fit L i ps ≡ true → pairs_fit L end ps ≡ true
    → pairs_fit L end (run_before i k ++ ps) ≡ true
fit-run L end i zero ps s h b past from = from
fit-run L end i (suc k) ps s h b past from =
    let e : i - suc k + suc k ≡ i = omega arith in
    rw (
      ne_eqb (suc k) 0 (λ e. omega arith),
      le-leb (suc k) max_run s,
      le-leb end (i - suc k) (omega arith),
      e,
      le-leb i L b,
    ) past

fit-from : (L : ℕ) (ms : List ℕ) (end i k : ℕ) → k ≤ max_run → end + k ≤ i → i + length ms ≤ L → pairs_fit L end (pairs_from i k ms) ≡ true
unfolding ended_run row_after
fit-from L [] end i k s h b = rw append-nil at (fit-run L end i k [] s h (omega arith) refl refl)
fit-from L (m ∷ ms) end i k s h b = go (goes_on k m) refl (λ e n r j. fit-from L ms e (suc i) n r j (omega arith))
  where
    go : (t : Bool) → goes_on k m ≡ t → ((e n : ℕ) → n ≤ max_run → e + n ≤ suc i → pairs_fit L e (pairs_from (suc i) n ms) ≡ true)
        → pairs_fit L end ((when t then [] else run_before i k) ++ pairs_from (suc i) (when t then k + 1 else bit (eqb m 1)) ms) ≡ true
    go true on ih = ih end (k + 1) (omega (arith, on-short k m on)) (omega arith)
    go false on ih =
        let n = bit (eqb m 1) in
        let one = bit-one (eqb m 1) in
        fit-run L end i k (pairs_from (suc i) n ms) s h (omega arith) (ih i n (omega arith) (omega arith))
        (ih end n (omega arith) (omega arith))

pub pairs-fit : (L : ℕ) (marks : List ℕ) → length marks ≤ L → pairs_fit L 0 (marked_pairs marks) ≡ true
pairs-fit L marks h = rw (← pairs-passed marks) (fit-from L marks 0 0 0 (omega arith) (omega arith) (omega arith))
