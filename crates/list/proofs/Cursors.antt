-- Laws of cursors: which pair one stands in, the LBN there, and the next place.
use Prim.Native.Nat.{ℕ, ◌+◌, ◌<◌}
use mathlib.Core.Path.{◌≡◌, ap, ◌∙◌}
use mathlib.Core.Logic.{⊎_elim}
use mathlib.Core.List.{List}
use native.Mathlib.Nat.{eq-or-lt_of_le}
use native.Mathlib.Numerals.{add-one}
use native.Mathlib.Omega.{arith}
use lib.ListN.{take}
use lib.Seq.{take_all}
use Rattle.words.specs.Lists.{sum}
use Rattle.words.proofs.Ranges.{sum-take}
use Rattle.runs.specs.Changes.{Pair, pair_count, pair_at, pairs, lengths, change_count, lbns, change_at}
use Rattle.runs.proofs.Pairs.{length_pairs, get_or-pairs, run_at}
use Rattle.list.specs.Readers.{index_of, Valid}
use Rattle.list.specs.declared.Cursor.{Cursor}

module _ (b : List ℕ) (c : Cursor) where
  -- a cursor that isn't past the last change stands in a pair
  pub in_pair : Valid b c → index_of b c < change_count b → c.pair < pair_count b
  unfolding index_of change_count
  in_pair v h = ⊎_elim (λ e. absurd (past e)) (λ k. k) (eq-or-lt_of_le v.pair)
    where
      past : c.pair ≡ pair_count b → ⊥
      past e =
          let w : c.within ≡ 0 = v.end e in
          let t : take c.pair (pairs b) ≡ pairs b = take_all c.pair (pairs b) (rw length_pairs (omega arith)) in
          let s : sum (lengths (take c.pair (pairs b))) ≡ sum (lengths (pairs b)) = ap (λ (ps : List Pair). sum (lengths ps)) t in
          omega arith

  module _ (k : c.pair < pair_count b) where
    pub lbn-there : c.within < (pair_at b c.pair).many → (change_at b (index_of b c)).lbn ≡ (pair_at b c.pair).first + c.within
    unfolding index_of change_at lbns
    lbn-there h =
        let at = get_or-pairs b c.pair (pair_at b c.pair) k in
        run_at (pairs b) c.pair c.within (pair_at b c.pair) (rw length_pairs k) (rw at h)
        ∙ rw at

    -- one more block of the pair, and the first block of the next pair
    pub index-within : index_of b (record { pair = c.pair; within = c.within + 1 }) ≡ index_of b c + 1
    unfolding index_of
    index-within = omega arith

    pub index-pair : c.within + 1 ≡ (pair_at b c.pair).many → index_of b (record { pair = c.pair + 1; within = 0 }) ≡ index_of b c + 1
    unfolding index_of
    index-pair h =
        let t = sum-take (λ (p : Pair). p.many) (pairs b) c.pair (pair_at b c.pair) (rw length_pairs k) in
        let at = ap (λ (p : Pair). p.many) (get_or-pairs b c.pair (pair_at b c.pair) k) in
        rw (add-one c.pair) (omega arith)
