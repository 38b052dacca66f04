-- How long the writer's list is: for any marks, at most, and where all blocks are marked.
use Prim.Native.Nat.{ℕ, zero, suc, ◌+◌, ◌-◌, ◌*◌, ◌/◌, ◌%◌, ◌≤◌, ◌<◌}
use mathlib.Core.Path.{◌≡◌, refl, ap, ◌∙◌}
use mathlib.Core.Bool.{Bool, true, false}
use mathlib.Core.List.{List, [], ◌∷◌, ◌++◌, append-nil}
use native.Mathlib.Nat.{zero-add, add-zero}
use native.Mathlib.Omega.{arith}
use borrow.Author.Tests.{eq-eqb}
use lib.Dec.{eqb}
use lib.ListN.{length, replicate, length-append, length-map}
use Rattle.words.specs.Blocks.{block_size, print_size}
use Rattle.words.specs.Choice.{when◌then◌else◌}
use Rattle.words.specs.Lists.{bit}
use Rattle.words.specs.Sections.{tab}
use Rattle.words.proofs.Prefixes.{bit-one}
use Rattle.runs.specs.Changes.{Pair, pair_size, max_run}
use Rattle.runs.specs.Writer.{run_before, runs, pieces_from, pieces, marked_pairs, marked_from, image_change, marked_changes}
use Rattle.runs.specs.Writer.{marked_list, input_ok, list_bound}
use Rattle.runs.specs.Passing.{goes_on, ended_run, row_after, pairs_from}
use Rattle.runs.proofs.ListBytes.{length_back}
use Rattle.runs.proofs.Marked.{input_facts, marked_fitting}
use Rattle.runs.proofs.RunLaws.{marked_cons}
use Rattle.runs.proofs.PassingLaws.{on-marked, on-short, off-full, pairs-passed}

-- ---- the length by the pieces and the marked blocks, which number 20 goes by

pub list_length : (L : ℕ) (marks prints image : List ℕ) → input_ok L marks prints image ≡ true
    → length (marked_list marks prints image)
    ≡ 2 + length (marked_pairs marks) * pair_size + length (marked_from 0 marks) * (print_size + block_size)
unfolding marked_list marked_changes
list_length L marks prints image h =
    length_back (marked_pairs marks) (marked_changes marks prints image)
    (marked_fitting L marks prints image (input_facts L marks prints image h))
    ∙ ap (λ (n : ℕ). 2 + length (marked_pairs marks) * pair_size + n * (print_size + block_size))
    (length-map (marked_from 0 marks) (image_change prints image))

-- 65 blocks in a row have two pairs
pub list_of_65 : (prints image : List ℕ) → input_ok 65 (replicate 65 1) prints image ≡ true
    → length (marked_list (replicate 65 1) prints image) ≡ 2 + 2 * 4 + 65 * 528
unfolding pieces marked_pairs
list_of_65 prints image h = list_length 65 (replicate 65 1) prints image h

-- ---- `list_bound` is always enough

marked-most : (ms : List ℕ) (i : ℕ) → length (marked_from i ms) ≤ length ms
marked-most [] i = omega arith
marked-most (m ∷ ms) i = omega (arith, marked_cons m ms i, bit-one (eqb m 1), marked-most ms (suc i))

before-most : (i k : ℕ) → (length (run_before i k) ≤ 1) × (length (run_before i k) ≤ k)
before-most i zero = (omega arith, omega arith)
before-most i (suc k) = (omega arith, omega arith)

-- a run that ends at a marked block is full, so it has as many blocks as room
ended-most : (i k m : ℕ) → goes_on k m ≡ false → length (run_before i k) * max_run + bit (eqb m 1) * (max_run - 1) ≤ k + (max_run - 1)
ended-most i k m off = go (eqb m 1) refl
  where
    go : (t : Bool) → eqb m 1 ≡ t → length (run_before i k) * max_run + bit t * (max_run - 1) ≤ k + (max_run - 1)
    go true e = omega (arith, before-most i k, off-full k m off e)
    go false e = omega (arith, before-most i k)

-- a block that isn't marked ends a run max_run - 1 blocks early, at most
pairs-most : (ms : List ℕ) (i k : ℕ) → k ≤ max_run
    → length (pairs_from i k ms) * max_run + length (marked_from i ms) * (max_run - 1) ≤ k + length ms * max_run + (max_run - 1)
unfolding ended_run row_after
pairs-most [] i k b = omega (arith, before-most i k)
pairs-most (m ∷ ms) i k b = go (goes_on k m) refl (pairs-most ms (suc i))
  where
    go : (t : Bool) → goes_on k m ≡ t
        → ((n : ℕ) → n ≤ max_run → length (pairs_from (suc i) n ms) * max_run + length (marked_from (suc i) ms) * (max_run - 1)
        ≤ n + length ms * max_run + (max_run - 1))
        → length ((when t then [] else run_before i k) ++ pairs_from (suc i) (when t then k + 1 else bit (eqb m 1)) ms) * max_run
        + length (marked_from i (m ∷ ms)) * (max_run - 1)
        ≤ k + length (m ∷ ms) * max_run + (max_run - 1)
    go true on ih =
        omega (arith, marked_cons m ms i, ap bit (eq-eqb m 1 (on-marked k m on)), ih (k + 1) (omega (arith, on-short k m on)))
    go false on ih =
        let n = bit (eqb m 1) in
        let one = bit-one (eqb m 1) in
        rw (length-append (run_before i k) (pairs_from (suc i) n ms))
        (omega (arith, marked_cons m ms i, ended-most i k m on, ih n (omega arith)))

pub list-bounded : (L : ℕ) (marks prints image : List ℕ) → input_ok L marks prints image ≡ true
    → length (marked_list marks prints image) ≤ list_bound L
unfolding list_bound
list-bounded L marks prints image h =
    omega (
      arith,
      list_length L marks prints image h,
      (input_facts L marks prints image h).marks-long,
      ap length (pairs-passed marks),
      pairs-most marks 0 0 (omega arith),
      marked-most marks 0,
    )

-- ---- and no less is, where all blocks are marked

runs-all : (n i k : ℕ) → runs i k (replicate n 1) ≡ run_before (i + n) (k + n)
runs-all zero i k = rw (add-zero i, add-zero k)
runs-all (suc n) i k =
    let e : suc i + n ≡ i + suc n = omega arith in
    let f : suc k + n ≡ k + suc n = omega arith in
    runs-all n (suc i) (suc k) ∙ rw (e, f)

marked_all : (n i : ℕ) → length (marked_from i (replicate n 1)) ≡ n
marked_all zero i = refl
marked_all (suc n) i = ap suc (marked_all n (suc i))

length_from : (f s k : ℕ) → k < max_run → length (pieces_from f s k) ≡ s + (k + (max_run - 1)) / max_run
length_from f zero zero b = refl
length_from f zero (suc k) b = omega arith
length_from f (suc s) k b = omega (arith, length_from (f + max_run) s k b)

-- as many pieces as it takes
pub length-pieces : (p : Pair) → length (pieces p) ≡ (p.many + (max_run - 1)) / max_run
unfolding pieces
length-pieces p = omega (arith, length_from p.first (p.many / max_run) (p.many % max_run) (omega arith))

-- the pairs of a volume that is all marked
pub row-pieces : (n : ℕ) → marked_pairs (replicate (suc n) 1) ≡ pieces (record { first = 0; many = suc n })
unfolding marked_pairs
row-pieces n =
    let e : suc n - suc n ≡ 0 = omega arith in
    rw (runs-all (suc n) 0 0, zero-add (suc n)) (rw e (append-nil (pieces (record { first = 0; many = suc n }))))

pub row_of_1024 : marked_pairs (replicate 1024 1) ≡ tab 16 (λ j. record { first = j * 64; many = 64 })
unfolding pieces
row_of_1024 = row-pieces 1023

pairs-all : (n : ℕ) → length (marked_pairs (replicate n 1)) ≡ (n + (max_run - 1)) / max_run
unfolding marked_pairs
pairs-all zero = refl
pairs-all (suc n) = ap length (row-pieces n) ∙ length-pieces (record { first = 0; many = suc n })

pub bound-filled : (L : ℕ) (prints image : List ℕ) → input_ok L (replicate L 1) prints image ≡ true
    → length (marked_list (replicate L 1) prints image) ≡ list_bound L
unfolding list_bound
bound-filled L prints image h =
    omega (arith, list_length L (replicate L 1) prints image h, pairs-all L, marked_all L 0)
