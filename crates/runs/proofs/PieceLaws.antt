-- Laws of pieces: what specs/Runs.antt says of those of one run, and how they are made of full pieces and a rest.
use Prim.Native.Nat.{ℕ, zero, suc, ◌+◌, ◌-◌, ◌*◌, ◌/◌, ◌%◌, ◌≤◌, ◌<◌}
use mathlib.Core.Path.{◌≡◌, refl, sym, ap, ◌∙◌}
use mathlib.Core.Logic.{⊎_elim}
use mathlib.Core.List.{List, [], ◌∷◌, ◌++◌, map, append-nil}
use native.Mathlib.Nat.{not-suc-le-zero, le_of_suc-le-suc}
use native.Mathlib.Omega.{arith}
use lib.ListN.{length, get_or}
use Rattle.words.specs.Lists.{up_from, joined}
use Rattle.words.proofs.Appends.{map_append, joined_append}
use Rattle.words.proofs.Ranges.{below_or_not, up_from-add}
use Rattle.runs.specs.Changes.{Pair, run, max_run}
use Rattle.runs.specs.Writer.{run_before, pieces_from, pieces}
use Rattle.runs.specs.Runs.{InPieces}

-- ---- what the pieces of one run are

blocks_from : (f s k : ℕ) → joined (map run (pieces_from f s k)) ≡ up_from f (s * max_run + k)
blocks_from f zero zero = refl
blocks_from f zero (suc k) =
    let e : f + suc k - suc k ≡ f = omega arith in
    let n : 0 * max_run + suc k ≡ suc k = omega arith in
    rw (append-nil, e, n)
blocks_from f (suc s) k =
    let n : max_run + (s * max_run + k) ≡ suc s * max_run + k = omega arith in
    ap (λ (r : List ℕ). up_from f max_run ++ r) (blocks_from (f + max_run) s k)
    ∙ sym (up_from-add f max_run (s * max_run + k))
    ∙ ap (λ (m : ℕ). up_from f m) n

module _ (d : Pair) where
  sizes-from : (f s k j : ℕ) → k ≤ max_run → j < length (pieces_from f s k)
      → (0 < (get_or (pieces_from f s k) j d).many) × ((get_or (pieces_from f s k) j d).many ≤ max_run)
  sizes-from f zero zero j b h = absurd (not-suc-le-zero h)
  sizes-from f zero (suc k) zero b h = (omega arith, b)
  sizes-from f zero (suc k) (suc j) b h = absurd (omega arith)
  sizes-from f (suc s) k zero b h = (omega arith, omega arith)
  sizes-from f (suc s) k (suc j) b h = sizes-from (f + max_run) s k j b (le_of_suc-le-suc h)

  full_from : (f s k j : ℕ) → suc j < length (pieces_from f s k) → (get_or (pieces_from f s k) j d).many ≡ max_run
  full_from f zero zero j h = absurd (not-suc-le-zero h)
  full_from f zero (suc k) j h = absurd (omega arith)
  full_from f (suc s) k zero h = refl
  full_from f (suc s) k (suc j) h = full_from (f + max_run) s k j (le_of_suc-le-suc h)

  starts_from : (f s k : ℕ) → 0 < length (pieces_from f s k) → (get_or (pieces_from f s k) 0 d).first ≡ f
  starts_from f zero zero h = absurd (not-suc-le-zero h)
  starts_from f zero (suc k) h = omega arith
  starts_from f (suc s) k h = refl

  touch-from : (f s k j : ℕ) → suc j < length (pieces_from f s k)
      → (get_or (pieces_from f s k) j d).first + (get_or (pieces_from f s k) j d).many ≡ (get_or (pieces_from f s k) (suc j) d).first
  touch-from f zero zero j h = absurd (not-suc-le-zero h)
  touch-from f zero (suc k) j h = absurd (omega arith)
  touch-from f (suc s) k zero h = sym (starts_from (f + max_run) s k (le_of_suc-le-suc h))
  touch-from f (suc s) k (suc j) h = touch-from (f + max_run) s k j (le_of_suc-le-suc h)

pub in_pieces : (p d : Pair) → InPieces p d
unfolding pieces
in_pieces p d =
    let s = p.many / max_run in
    let k = p.many % max_run in
    let n : s * max_run + k ≡ p.many = omega arith in
    record {
      blocks = blocks_from p.first s k ∙ ap (λ (m : ℕ). up_from p.first m) n;
      sizes = λ j h. sizes-from d p.first s k j (omega arith) h;
      full = λ j h. full_from d p.first s k j h;
      touch = λ j h. touch-from d p.first s k j h;
    }

-- ---- full pieces, and a rest that may be a full piece too

pieces-rest : (f s k : ℕ) → pieces_from f s k ≡ pieces_from f s 0 ++ run_before (f + (s * max_run + k)) k
pieces-rest f zero k = ap (λ (i : ℕ). run_before i k) (omega arith)
pieces-rest f (suc s) k =
    ap (λ (ps : List Pair). record { first = f; many = max_run } ∷ ps)
    (pieces-rest (f + max_run) s k ∙ ap (λ (i : ℕ). pieces_from (f + max_run) s 0 ++ run_before i k) (omega arith))

pieces-full : (f s : ℕ) → pieces_from f (suc s) 0 ≡ pieces_from f s max_run
pieces-full f zero = ap (λ (i : ℕ). record { first = i; many = max_run } ∷ []) (omega arith)
pieces-full f (suc s) = ap (λ (ps : List Pair). record { first = f; many = max_run } ∷ ps) (pieces-full (f + max_run) s)

-- one full piece more is the one that ends before LBN i
pub pieces_more : (i s n : ℕ) → n ≡ s * max_run + max_run → n ≤ i
    → pieces_from (i - n) (suc s) 0 ≡ pieces_from (i - n) s 0 ++ run_before i max_run
pieces_more i s n e h =
    let end : i - n + (s * max_run + max_run) ≡ i = omega arith in
    pieces-full (i - n) s
    ∙ pieces-rest (i - n) s max_run
    ∙ ap (λ (j : ℕ). pieces_from (i - n) s 0 ++ run_before j max_run) end

-- the pieces of s * max_run + k blocks, where the rest may be a full piece
pieces_of : (f s k n : ℕ) → n ≡ s * max_run + k → k ≤ max_run → pieces (record { first = f; many = n }) ≡ pieces_from f s k
unfolding pieces
pieces_of f s k n e b = ⊎_elim
    (λ less.
    let q : n / max_run ≡ s = omega arith in
    let r : n % max_run ≡ k = omega arith in
    rw (q, r))
    (λ all.
    let q : n / max_run ≡ suc s = omega arith in
    let r : n % max_run ≡ 0 = omega arith in
    let m : k ≡ max_run = omega arith in
    rw (q, r, m) (pieces-full f s))
    (below_or_not k max_run)

-- ---- the pieces of some runs

abbrev pub cut : List Pair → List Pair
cut ps = joined (map pieces ps)

pub cut_append : (ps qs : List Pair) → cut (ps ++ qs) ≡ cut ps ++ cut qs
cut_append ps qs = ap joined (map_append pieces ps qs) ∙ joined_append (map pieces ps) (map pieces qs)

pub cut-named : (ps : List Pair) → joined (map run (cut ps)) ≡ joined (map run ps)
cut-named [] = refl
cut-named (p ∷ ps) =
    ap joined (map_append run (pieces p) (cut ps))
    ∙ joined_append (map run (pieces p)) (map run (cut ps))
    ∙ ap (λ (r : List ℕ). r ++ joined (map run (cut ps))) (in_pieces p p).blocks
    ∙ ap (λ (r : List ℕ). run p ++ r) (cut-named ps)

-- the pieces of the run of n blocks that ends before LBN i: s full ones, and the last k blocks
pub cut-before : (i s k n : ℕ) → n ≡ s * max_run + k → n ≤ i → k ≤ max_run → (k ≡ 0 → s ≡ 0)
    → cut (run_before i n) ≡ pieces_from (i - n) s 0 ++ run_before i k
cut-before i s k zero e h b z =
    let k0 : k ≡ 0 = omega arith in
    let s0 : s ≡ 0 = z k0 in
    rw (k0, s0)
cut-before i s k (suc n) e h b z =
    let end : i - suc n + (s * max_run + k) ≡ i = omega arith in
    append-nil (pieces (record { first = i - suc n; many = suc n }))
    ∙ pieces_of (i - suc n) s k (suc n) e b
    ∙ pieces-rest (i - suc n) s k
    ∙ ap (λ (j : ℕ). pieces_from (i - suc n) s 0 ++ run_before j k) end
