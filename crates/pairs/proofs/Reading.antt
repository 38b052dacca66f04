-- The pairs of a list read one after the other, and what they come to.
use Prim.Native.Nat.{ℕ, suc, ◌+◌, ◌≤◌, ◌<◌, zero-le}
use mathlib.Core.Path.{◌≡◌, refl, ap, ◌∙◌}
use mathlib.Core.Bool.{Bool, true, false, ◌&&◌}
use mathlib.Core.List.{List, [], ◌∷◌}
use native.Mathlib.Numerals.{add-one}
use native.Mathlib.Omega.{arith}
use lib.ListN.{drop, drop_of_length-le}
use lib.Seq.{drop-cons}
use Rattle.std.proofs.Common.{Some, None}
use Rattle.words.specs.Choice.{when◌then◌else◌}
use Rattle.words.specs.Lists.{sum}
use Rattle.runs.specs.Changes.{Pair, pair_count, pair_at, pairs, lengths, change_count, pair_fits, pairs_fit}
use Rattle.pairs.specs.Answers.{counted_of}
use Rattle.runs.proofs.Pairs.{length_pairs, get_or-pairs, fit-sum}

module _ (b : List ℕ) where
  drop-pairs : (i : ℕ) → i < pair_count b → drop i (pairs b) ≡ pair_at b i ∷ drop (i + 1) (pairs b)
  drop-pairs i h =
      rw (add-one i)
      (drop-cons (pairs b) i (pair_at b i) (rw (length_pairs b) h)
      ∙ ap (λ (p : Pair). p ∷ drop (suc i) (pairs b)) (get_or-pairs b i (pair_at b i) h))

  pub pairs_end : (i : ℕ) → pair_count b ≤ i → drop i (pairs b) ≡ []
  pairs_end i h = drop_of_length-le (pairs b) {i = i} (rw (length_pairs b) h)

-- one turn of a loop over the pairs, at pair i
module _ (b : List ℕ) (i first many : ℕ) (h : i < pair_count b) (p : first ≡ (pair_at b i).first) (q : many ≡ (pair_at b i).many) where
  fit-turn : (L end : ℕ) → pairs_fit L end (drop i (pairs b))
      ≡ (pair_fits L end first many && pairs_fit L (first + many) (drop (i + 1) (pairs b)))
  fit-turn L end = rw (p, q) (ap (λ (ps : List Pair). pairs_fit L end ps) (drop-pairs b i h))

  pub fit-more : (L end : ℕ) → pair_fits L end first many ≡ true
      → pairs_fit L end (drop i (pairs b)) ≡ pairs_fit L (first + many) (drop (i + 1) (pairs b))
  fit-more L end e = fit-turn L end ∙ ap (λ (t : Bool). t && pairs_fit L (first + many) (drop (i + 1) (pairs b))) e

  pub fit-stop : (L end : ℕ) → pair_fits L end first many ≡ false → pairs_fit L end (drop i (pairs b)) ≡ false
  fit-stop L end e = fit-turn L end ∙ ap (λ (t : Bool). t && pairs_fit L (first + many) (drop (i + 1) (pairs b))) e

  pub count-more : sum (lengths (drop i (pairs b))) ≡ many + sum (lengths (drop (i + 1) (pairs b)))
  count-more = rw q (ap (λ (ps : List Pair). sum (lengths ps)) (drop-pairs b i h))

-- what the pairs come to
module _ (L : ℕ) (b : List ℕ) where
  pub counted-fit : pairs_fit L 0 (pairs b) ≡ true → counted_of L b ≡ Some (change_count b)
  unfolding counted_of
  counted-fit e = ap (λ (t : Bool). when t then Some (change_count b) else None) e

  pub counted_unfit : pairs_fit L 0 (pairs b) ≡ false → counted_of L b ≡ None
  unfolding counted_of
  counted_unfit e = ap (λ (t : Bool). when t then Some (change_count b) else None) e

  pub fit-counted : (n : ℕ) → counted_of L b ≡ Some n → (pairs_fit L 0 (pairs b) ≡ true) × (n ≡ change_count b)
  unfolding counted_of
  fit-counted n e = go (pairs_fit L 0 (pairs b)) e
    where
      go : (t : Bool) → (when t then Some (change_count b) else None) ≡ Some n → (t ≡ true) × (n ≡ change_count b)
      go true q = (refl, cc)
      go false q = (cc, cc)

  pub counted-within : (n : ℕ) → counted_of L b ≡ Some n → n ≤ L
  unfolding change_count
  counted-within n e = let f = fit-counted n e in omega (arith, fit-sum L 0 (pairs b) zero-le f.0)

  pub unfit_counted : counted_of L b ≡ None → pairs_fit L 0 (pairs b) ≡ false
  unfolding counted_of
  unfit_counted e = go (pairs_fit L 0 (pairs b)) e
    where
      go : (t : Bool) → (when t then Some (change_count b) else None) ≡ None → t ≡ false
      go true q = cc
      go false q = refl
