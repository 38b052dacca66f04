-- Laws of the writer's runs: their LBNs are the marked ones, and no two touch.
use Prim.Native.Nat.{ℕ, zero, suc, ◌+◌, ◌-◌, ◌≤◌, ◌<◌}
use mathlib.Core.Path.{◌≡◌, refl, ap, ◌∙◌}
use mathlib.Core.Bool.{Bool, true, false}
use mathlib.Core.List.{List, [], ◌∷◌, ◌++◌, map, append_assoc}
use native.Mathlib.Nat.{not-suc-le-zero, le_of_suc-le-suc, zero-add, add-zero, add-suc, suc-add}
use native.Mathlib.Omega.{arith}
use lib.ListN.{length, get_or}
use lib.Dec.{ltb, eqb}
use borrow.Author.Tests.{ltb-true, lt-ltb, eq-eqb, ne_eqb, eqb-true}
use Rattle.words.specs.Choice.{when◌then◌else◌}
use Rattle.words.proofs.ChoiceLaws.{and_true}
use Rattle.words.proofs.Ranges.{up_from-snoc}
use Rattle.words.specs.Lists.{up_from, joined, all, some_of, those, all_zero, bit}
use Rattle.runs.specs.Changes.{Pair, run}
use Rattle.runs.specs.Writer.{run_before, runs, marked_pairs, marked_from}
use Rattle.runs.specs.Runs.{starts_past, apart}
use Rattle.runs.proofs.PieceLaws.{cut, cut-named}

-- ---- the marked LBNs

-- a block before the first mark's is not among them; any other is exactly when its mark is 1
marked-before : (l : ℕ) (ms : List ℕ) (i : ℕ) → l < i → some_of (eqb l) (marked_from i ms) ≡ false
marked-before l [] i h = refl
marked-before l (m ∷ ms) i h = go (eqb m 1) (marked-before l ms (suc i) (omega arith))
  where
    go : (t : Bool) → some_of (eqb l) (marked_from (suc i) ms) ≡ false
        → some_of (eqb l) (when t then i ∷ marked_from (suc i) ms else marked_from (suc i) ms) ≡ false
    go true ih = rw (ne_eqb l i (λ e. omega arith)) ih
    go false ih = ih

pub marked_from_lem : (ms : List ℕ) (i n : ℕ) → some_of (eqb (i + n)) (marked_from i ms) ≡ eqb (get_or ms n 0) 1
marked_from_lem [] i n = refl
marked_from_lem (m ∷ ms) i zero = go (eqb m 1)
  where
    go : (t : Bool) → some_of (eqb (i + 0)) (when t then i ∷ marked_from (suc i) ms else marked_from (suc i) ms) ≡ t
    go true = rw (eq-eqb (i + 0) i (add-zero i))
    go false = marked-before (i + 0) ms (suc i) (omega arith)
marked_from_lem (m ∷ ms) i (suc n) = rw (add-suc i n, ← suc-add i n) (go (eqb m 1) (marked_from_lem ms (suc i) n))
  where
    go : (t : Bool) → some_of (eqb (suc i + n)) (marked_from (suc i) ms) ≡ eqb (get_or ms n 0) 1
        → some_of (eqb (suc i + n)) (when t then i ∷ marked_from (suc i) ms else marked_from (suc i) ms) ≡ eqb (get_or ms n 0) 1
    go true ih = rw (ne_eqb (suc i + n) i (λ e. omega arith)) ih
    go false ih = ih

-- a block is among the marked ones exactly when its mark is 1
pub marked : (marks : List ℕ) (l : ℕ) → some_of (eqb l) (marked_from 0 marks) ≡ eqb (get_or marks l 0) 1
marked marks l = rw zero-add at (marked_from_lem marks 0 l)

-- they are those blocks in order; ws are all marks, ms those from LBN i on
ordered-from : (ws ms : List ℕ) (i : ℕ) → ((n : ℕ) → get_or ws (i + n) 0 ≡ get_or ms n 0)
    → marked_from i ms ≡ those (λ l. eqb (get_or ws l 0) 1) (up_from i (length ms))
ordered-from ws [] i h = refl
ordered-from ws (m ∷ ms) i h =
    let e : get_or ws i 0 ≡ m = rw add-zero at (h 0) in
    rw e (go (eqb m 1) (ordered-from ws ms (suc i) (λ n. rw (suc-add i n, ← add-suc i n) (h (suc n)))))
  where
    go : (t : Bool) → marked_from (suc i) ms ≡ those (λ l. eqb (get_or ws l 0) 1) (up_from (suc i) (length ms))
        → (when t then i ∷ marked_from (suc i) ms else marked_from (suc i) ms)
        ≡ (when t then i ∷ those (λ l. eqb (get_or ws l 0) 1) (up_from (suc i) (length ms))
        else those (λ l. eqb (get_or ws l 0) 1) (up_from (suc i) (length ms)))
    go true ih = ap (λ (r : List ℕ). i ∷ r) ih
    go false ih = ih

pub marked-ordered : (marks : List ℕ) → marked_from 0 marks ≡ those (λ l. eqb (get_or marks l 0) 1) (up_from 0 (length marks))
marked-ordered marks = ordered-from marks marks 0 (λ n. rw zero-add)

pub marked-below : (ms : List ℕ) (i n : ℕ) → i + length ms ≤ n → all (λ l. ltb l n) (marked_from i ms) ≡ true
marked-below [] i n h = refl
marked-below (m ∷ ms) i n h = go (eqb m 1) (marked-below ms (suc i) n (omega arith))
  where
    go : (t : Bool) → all (λ l. ltb l n) (marked_from (suc i) ms) ≡ true
        → all (λ l. ltb l n) (when t then i ∷ marked_from (suc i) ms else marked_from (suc i) ms) ≡ true
    go true ih = rw (lt-ltb i n (omega arith)) ih
    go false ih = ih

-- how many they are, by the first mark
pub marked_cons : (m : ℕ) (ms : List ℕ) (i : ℕ) → length (marked_from i (m ∷ ms)) ≡ bit (eqb m 1) + length (marked_from (suc i) ms)
marked_cons m ms i = go (eqb m 1)
  where
    rest : List ℕ
    rest = marked_from (suc i) ms

    go : (t : Bool) → length (when t then i ∷ rest else rest) ≡ bit t + length rest
    go true = omega arith
    go false = omega arith

pub marked-none : (ms : List ℕ) (i : ℕ) → all_zero ms ≡ true → marked_from i ms ≡ []
marked-none [] i h = refl
marked-none (m ∷ ms) i h =
    let t = and_true (eqb m 0) (all_zero ms) h in
    rw (eqb-true m 0 t.0) (marked-none ms (suc i) t.1)

-- ---- the runs' LBNs are the marked ones

named-before : (i k : ℕ) (ps : List Pair) → joined (map run (run_before i k ++ ps)) ≡ up_from (i - k) k ++ joined (map run ps)
named-before i zero ps = refl
named-before i (suc k) ps = refl

named-from : (ms : List ℕ) (i k : ℕ) → k ≤ i → joined (map run (runs i k ms)) ≡ up_from (i - k) k ++ marked_from i ms
named-from [] i zero h = refl
named-from [] i (suc k) h = refl
named-from (m ∷ ms) i k h = go (eqb m 1) (named-from ms (suc i) (suc k) (omega arith)) (named-from ms (suc i) 0 (omega arith))
  where
    go : (t : Bool) → joined (map run (runs (suc i) (suc k) ms)) ≡ up_from (suc i - suc k) (suc k) ++ marked_from (suc i) ms
        → joined (map run (runs (suc i) 0 ms)) ≡ up_from (suc i - 0) 0 ++ marked_from (suc i) ms
        → joined (map run (when t then runs (suc i) (suc k) ms else run_before i k ++ runs (suc i) 0 ms))
        ≡ up_from (i - k) k ++ (when t then i ∷ marked_from (suc i) ms else marked_from (suc i) ms)
    go true more none =
        let start : suc i - suc k ≡ i - k = omega arith in
        let end : i - k + k ≡ i = omega arith in
        let snoc : up_from (suc i - suc k) (suc k) ≡ up_from (i - k) k ++ i ∷ [] =
        ap (λ (a : ℕ). up_from a (suc k)) start ∙ up_from-snoc (i - k) k ∙ ap (λ (n : ℕ). up_from (i - k) k ++ n ∷ []) end
        in
        more ∙ ap (λ (r : List ℕ). r ++ marked_from (suc i) ms) snoc ∙ append_assoc (up_from (i - k) k) (i ∷ []) (marked_from (suc i) ms)
    go false more none = named-before i k (runs (suc i) 0 ms) ∙ ap (λ (r : List ℕ). up_from (i - k) k ++ r) none

pub runs-named : (marks : List ℕ) → joined (map run (runs 0 0 marks)) ≡ marked_from 0 marks
runs-named marks = named-from marks 0 0 (omega arith)

pub runs_none : (ms : List ℕ) (i : ℕ) → all_zero ms ≡ true → runs i 0 ms ≡ []
runs_none [] i h = refl
runs_none (m ∷ ms) i h =
    let t = and_true (eqb m 0) (all_zero ms) h in
    rw (eqb-true m 0 t.0) (runs_none ms (suc i) t.1)

-- ---- the same of the list's pairs, which are their pieces

module _ (marks : List ℕ) where
  pub pairs-named : joined (map run (marked_pairs marks)) ≡ marked_from 0 marks
  unfolding marked_pairs
  pairs-named = cut-named (runs 0 0 marks) ∙ runs-named marks

  pub pairs-none : all_zero marks ≡ true → marked_pairs marks ≡ []
  unfolding marked_pairs
  pairs-none h = ap cut (runs_none marks 0 h)

-- ---- "longest": no two runs touch

past-from : (end : ℕ) (ms : List ℕ) (i k : ℕ) → end + k < i → starts_past end (runs i k ms) ≡ true
past-from end [] i zero h = refl
past-from end [] i (suc k) h = lt-ltb end (i - suc k) (omega arith)
past-from end (m ∷ ms) i k h = go (eqb m 1) k h (λ n. past-from end ms (suc i) n)
  where
    go : (t : Bool) (k : ℕ) → end + k < i → ((n : ℕ) → end + n < suc i → starts_past end (runs (suc i) n ms) ≡ true)
        → starts_past end (when t then runs (suc i) (suc k) ms else run_before i k ++ runs (suc i) 0 ms) ≡ true
    go true k h ih = ih (suc k) (omega arith)
    go false zero h ih = ih 0 (omega arith)
    go false (suc k) h ih = lt-ltb end (i - suc k) (omega arith)

apart_from : (ms : List ℕ) (i k : ℕ) → k ≤ i → apart (runs i k ms) ≡ true
apart_from [] i zero h = refl
apart_from [] i (suc k) h = refl
apart_from (m ∷ ms) i k h = go (eqb m 1) k h (λ n. apart_from ms (suc i) n)
  where
    go : (t : Bool) (k : ℕ) → k ≤ i → ((n : ℕ) → n ≤ suc i → apart (runs (suc i) n ms) ≡ true)
        → apart (when t then runs (suc i) (suc k) ms else run_before i k ++ runs (suc i) 0 ms) ≡ true
    go true k h ih = ih (suc k) (omega arith)
    go false zero h ih = ih 0 (omega arith)
    go false (suc k) h ih = rw (past-from (i - suc k + suc k) ms (suc i) 0 (omega arith)) (ih 0 (omega arith))

pub runs-apart : (marks : List ℕ) → apart (runs 0 0 marks) ≡ true
runs-apart marks = apart_from marks 0 0 (omega arith)

-- pair j ends before pair j + 1 starts
pub apart-at : (d : Pair) (ps : List Pair) (j : ℕ) → apart ps ≡ true → suc j < length ps
    → (get_or ps j d).first + (get_or ps j d).many < (get_or ps (suc j) d).first
apart-at d [] j h b = absurd (not-suc-le-zero b)
apart-at d (p ∷ []) zero h b = absurd (omega arith)
apart-at d (p ∷ q ∷ ps) zero h b =
    ltb-true (p.first + p.many) q.first (and_true (ltb (p.first + p.many) q.first) (apart (q ∷ ps)) h).0
apart-at d (p ∷ ps) (suc j) h b = apart-at d ps j (and_true (starts_past (p.first + p.many) ps) (apart ps) h).1 (le_of_suc-le-suc b)
