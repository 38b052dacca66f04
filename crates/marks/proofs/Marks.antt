-- What one mark does in each of its cases, and one turn of `pairs_from`.
use Prim.Native.Nat.{ℕ, zero, suc, ◌+◌, ◌-◌, ◌≤◌, ◌<◌}
use mathlib.Core.Path.{◌≡◌, refl, sym, ap, ◌∙◌}
use mathlib.Core.Logic.{◌⊎◌, inl, inr}
use mathlib.Core.Bool.{Bool, true, false, ◌&&◌}
use mathlib.Core.List.{List, [], ◌∷◌, ◌++◌}
use native.Mathlib.Nat.{add-zero}
use native.Mathlib.Numerals.{add-one}
use native.Mathlib.Omega.{arith}
use lib.Dec.{ltb, eqb}
use borrow.Author.Tests.{lt-ltb, le-ltb, eq-eqb, ne_eqb}
use lib.ListN.{length, get_or, drop, drop_of_length-le}
use lib.Seq.{drop-cons}
use Rattle.words.specs.Choice.{when◌then◌else◌}
use Rattle.words.specs.Lists.{bit}
use Rattle.words.proofs.Prefixes.{bit-one}
use Rattle.words.proofs.Ranges.{below_or_not}
use Rattle.words.specs.Numbers.{two, put}
use Rattle.words.proofs.Filling.{put-sets}
use Rattle.words.specs.Laying.{Stored}
use Rattle.words.proofs.LayingLaws.{sets-next}
use Rattle.runs.specs.Changes.{max_run}
use Rattle.runs.specs.Writer.{run_before, pair_bytes}
use Rattle.runs.proofs.PassingLaws.{on-marked}
use Rattle.runs.specs.Passing.{goes_on, ended_run, row_after, pairs_from}
use Rattle.marks.specs.Passes.{counted, pair_of}
use Rattle.marks.specs.declared.Tally.{Tally}

-- ---- one mark: the run goes on, or there was none, or it ends

module _ (k m : ℕ) where
  pub not_on : (m ≡ 1 → ⊥) → goes_on k m ≡ false
  unfolding goes_on
  not_on n = rw (ne_eqb m 1 n)

  -- the row grows exactly where the run goes on
  pub row-grows : (r : ℕ) → r ≡ row_after k m → k < r → goes_on k m ≡ true
  unfolding goes_on row_after
  row-grows r = go (eqb m 1) (below_or_not k max_run)
    where
      go : (t : Bool) → (k < max_run) ⊎ (max_run ≤ k) → r ≡ (when t && ltb k max_run then k + 1 else bit t) → k < r → (t && ltb k max_run) ≡ true
      go true (inl less) f h = lt-ltb k max_run less
      go true (inr full) f h = absurd (let g = rw (le-ltb k max_run full) at f in omega arith)
      go false _ f h = absurd (omega arith)

  pub row_stops : (r : ℕ) → r ≡ row_after k m → r ≤ k → goes_on k m ≡ false
  unfolding row_after
  row_stops r = go (goes_on k m)
    where
      go : (t : Bool) → r ≡ (when t then k + 1 else bit (eqb m 1)) → r ≤ k → t ≡ false
      go true f h = absurd (omega arith)
      go false f h = refl

  pub row-ended : goes_on k m ≡ false → row_after k m ≡ bit (eqb m 1)
  unfolding row_after
  row-ended e = rw e

  -- past a run that ends, the open one has at most the block with this mark
  pub row-anew : (r : ℕ) → r ≡ row_after k m → r ≤ k → r ≤ 1
  row-anew r e h = omega (arith, row-ended (row_stops r e h), bit-one (eqb m 1))

module _ (i k m : ℕ) where
  pub ended-on : goes_on k m ≡ true → ended_run i k m ≡ []
  unfolding ended_run
  ended-on e = rw e

  pub ended-none : k ≡ 0 → ended_run i k m ≡ []
  unfolding ended_run
  ended-none e = rw e (go (goes_on 0 m))
    where
      go : (t : Bool) → (when t then [] else run_before i 0) ≡ []
      go true = refl
      go false = refl

  pub ended-run : goes_on k m ≡ false → (k ≡ 0 → ⊥) → ended_run i k m ≡ record { first = i - k; many = k } ∷ []
  unfolding ended_run
  ended-run n e = rw n (go k e)
    where
      go : (k : ℕ) → (k ≡ 0 → ⊥) → run_before i k ≡ record { first = i - k; many = k } ∷ []
      go zero e = absurd (e refl)
      go (suc k) e = refl

module _ (t : Tally) (m r : ℕ) (e : r ≡ row_after t.row m) where
  pub counted-on : t.row < r → record { runs = t.runs; changes = t.changes + 1; row = r } ≡ counted t m
  unfolding counted
  counted-on h =
      let on = row-grows t.row m r e h in
      rw (ended-on 0 t.row m on, eq-eqb m 1 (on-marked t.row m on), add-zero t.runs, ← e)

  pub counted_none : r ≤ t.row → t.row ≡ 0 → t ≡ counted t m
  unfolding counted
  counted_none h z =
      let k : t.row ≡ r = omega arith in
      let b : bit (eqb m 1) ≡ 0 = omega (arith, row-ended t.row m (row_stops t.row m r e h)) in
      rw (ended-none 0 t.row m z, b, add-zero t.runs, add-zero t.changes, ← e)
      (ap (λ (x : ℕ). record { runs = t.runs; changes = t.changes; row = x }) k)

  pub counted-run : r ≤ t.row → (t.row ≡ 0 → ⊥) → record { runs = t.runs + 1; changes = t.changes + r; row = r } ≡ counted t m
  unfolding counted
  counted-run h z =
      let n = row_stops t.row m r e h in
      rw (ended-run 0 t.row m n z, ← row-ended t.row m n, ← e)

-- nothing is stored where no run ends, else the run's two numbers
module _ (out : List ℕ) (at i k m : ℕ) where
  pub pair-none : ended_run i k m ≡ [] → Stored out at (pair_of i k m) out at
  unfolding pair_of
  pair-none e = record { list = rw e; place = rw e (sym (add-zero at)) }

  pub pair-room : goes_on k m ≡ false → (k ≡ 0 → ⊥) → at + length (pair_of i k m) ≤ length out → at + 4 ≤ length out
  unfolding pair_of pair_bytes
  pair-room n e h = rw (ended-run i k m n e) at h

  pub pair_put : {o : List ℕ} → goes_on k m ≡ false → (k ≡ 0 → ⊥) → o ≡ put (put out at (i - k)) (at + 2) k
      → Stored out at (pair_of i k m) o (at + 4)
  unfolding pair_of pair_bytes
  pair_put n e s = rw (ended-run i k m n e) (record {
    list = s ∙ rw (put-sets out at (i - k), put-sets) (sets-next (two (i - k)) (two k) out at (at + 2) refl);
    place = refl;
  })

-- ---- the pairs that are left

pub pairs-more : (ms : List ℕ) (i k : ℕ) → i < length ms
    → pairs_from i k (drop i ms) ≡ ended_run i k (get_or ms i 0) ++ pairs_from (i + 1) (row_after k (get_or ms i 0)) (drop (i + 1) ms)
pairs-more ms i k h = rw (drop-cons ms i 0 h, add-one i)

-- any mark but 1 past the last one ends the last run
pub pairs_end : (ms : List ℕ) (i k m : ℕ) → length ms ≤ i → (m ≡ 1 → ⊥) → pairs_from i k (drop i ms) ≡ ended_run i k m
unfolding ended_run
pairs_end ms i k m h n = rw (drop_of_length-le ms {i = i} h, not_on k m n)
