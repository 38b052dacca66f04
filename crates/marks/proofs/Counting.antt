-- The pass that counts: what it has counted and what the marks that are left hold come to E and n.
use Prim.Native.Nat.{ℕ, zero, suc, ◌+◌, ◌≤◌, ◌<◌}
use mathlib.Core.Path.{◌≡◌, refl, sym, ap, subst, ◌∙◌}
use mathlib.Core.Bool.{Bool, true, false}
use mathlib.Core.List.{List, []}
use native.Mathlib.Nat.{zero-add}
use native.Mathlib.Numerals.{add-one}
use native.Mathlib.Omega.{arith}
use lib.Dec.{eqb}
use borrow.Author.Tests.{ne_eqb}
use lib.ListN.{length, get_or, drop, drop_of_length-le, length-append}
use lib.Seq.{drop-cons}
use Rattle.words.specs.Choice.{when◌then◌else◌}
use Rattle.words.specs.Lists.{bit}
use Rattle.words.proofs.Prefixes.{bit-one}
use Rattle.runs.specs.Writer.{run_before, marked_pairs, marked_from}
use Rattle.runs.specs.Passing.{goes_on, ended_run, row_after, pairs_from}
use Rattle.runs.proofs.PassingLaws.{pairs-passed}
use Rattle.runs.proofs.RunLaws.{marked_cons}
use Rattle.marks.specs.Passes.{counted, Counted}
use Rattle.marks.specs.declared.Tally.{Tally}
use Rattle.marks.proofs.Marks.{pairs-more, pairs_end}

-- before mark i
pub record Counting (ms : List ℕ) (t : Tally) (i : ℕ) : Type 0 where
  pub marked : t.changes + length (marked_from i (drop i ms)) ≡ length (marked_from 0 ms)
  pub ended : t.runs + length (pairs_from i t.row (drop i ms)) ≡ length (marked_pairs ms)
  pub few-runs : t.runs + t.row ≤ i
  pub few-changes : t.changes ≤ i

ended-length : (i k m : ℕ) → length (ended_run i k m) ≡ length (ended_run 0 k m)
unfolding ended_run
ended-length i k m = go (goes_on k m) k
  where
    go : (t : Bool) (k : ℕ) → length (when t then [] else run_before i k) ≡ length (when t then [] else run_before 0 k)
    go true k = refl
    go false zero = refl
    go false (suc k) = refl

marked_more : (ms : List ℕ) (i : ℕ) → i < length ms
    → length (marked_from i (drop i ms)) ≡ bit (eqb (get_or ms i 0) 1) + length (marked_from (i + 1) (drop (i + 1) ms))
marked_more ms i h = rw (drop-cons ms i 0 h, add-one i) (marked_cons (get_or ms i 0) (drop (suc i) ms) i)

few : (t : Tally) (m : ℕ) → ((counted t m).runs + (counted t m).row ≤ t.runs + t.row + 1) × ((counted t m).changes ≤ t.changes + 1)
unfolding counted ended_run row_after
few t m = (go (goes_on t.row m) t.row, omega (arith, bit-one (eqb m 1)))
  where
    go : (b : Bool) (k : ℕ) → t.runs + length (when b then [] else run_before 0 k) + (when b then k + 1 else bit (eqb m 1)) ≤ t.runs + k + 1
    go true k = omega arith
    go false zero = omega (arith, bit-one (eqb m 1))
    go false (suc k) = omega (arith, bit-one (eqb m 1))

-- before the first mark nothing is counted
pub none-counted : (ms : List ℕ) → Counting ms (record { runs = 0; changes = 0; row = 0 }) 0
none-counted ms = record {
  marked = zero-add (length (marked_from 0 ms));
  ended = zero-add (length (pairs_from 0 0 ms)) ∙ ap length (pairs-passed ms);
  few-runs = omega arith;
  few-changes = omega arith;
}

module _ (ms : List ℕ) (t r : Tally) (i : ℕ) where
  pub counting_more : i < length ms → r ≡ counted t (get_or ms i 0) → Counting ms t i → Counting ms r (i + 1)
  unfolding counted
  counting_more h c g =
      let m = get_or ms i 0 in
      let e =
      ap length (pairs-more ms i t.row h)
      ∙ length-append (ended_run i t.row m) (pairs_from (i + 1) (row_after t.row m) (drop (i + 1) ms)) in
      subst (λ (x : Tally). Counting ms x (i + 1)) (sym c)
      (record {
        marked = omega (arith, g.marked, marked_more ms i h);
        ended = omega (arith, g.ended, ended-length i t.row m, e);
        few-runs = omega (arith, few t m);
        few-changes = omega (arith, few t m);
      })

  pub counting_end : (m : ℕ) → length ms ≤ i → (m ≡ 1 → ⊥) → r ≡ counted t m → Counting ms t i → Counted ms r
  unfolding counted
  counting_end m h n c g =
      let none = ap bit (ne_eqb m 1 n) in
      subst (λ (x : Tally). Counted ms x) (sym c)
      (record {
        runs = omega (arith, g.ended, ended-length i t.row m, ap length (pairs_end ms i t.row m h n));
        changes = omega (arith, g.marked, none, ap (λ (l : List ℕ). length (marked_from i l)) (drop_of_length-le ms {i = i} h));
      })
