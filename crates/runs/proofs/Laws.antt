-- What is known of the changes of a list: of any bytes, and of a list that is not refused.
use Prim.Native.Nat.{ℕ, ◌+◌, ◌*◌, ◌≤◌, ◌<◌, zero-le}
use mathlib.Core.Path.{◌≡◌, refl, ◌∙◌}
use mathlib.Core.Logic.{⊎_elim}
use mathlib.Core.List.{List, map}
use native.Mathlib.Omega.{arith}
use lib.ListN.{length, get_or}
use Rattle.words.specs.Sections.{part}
use Rattle.words.proofs.SectionLaws.{length-tab, get_or-tab, tab-list}
use Rattle.words.proofs.Ranges.{map-tab}
use Rattle.words.proofs.Parts.{length_part, part-part}
use Rattle.runs.specs.Changes.{Change, pair_size, max_run, pair_count, pair_at, pairs, change_count, lbns, prints_from, blocks_from, list_size}
use Rattle.runs.specs.Changes.{change_at, changes, list_number}
use Rattle.words.specs.Blocks.{block_size, print_size}
use Rattle.runs.proofs.Pairs.{length_pairs, get_or-pairs, length_runs, fit-sum, fit_count, fit-each, fit-bounds, fit-rise}
use Rattle.runs.proofs.Number.{number-accepted, number-either}

-- ---- the changes of any bytes
module _ (b : List ℕ) where
  pub length-changes : length (changes b) ≡ change_count b
  unfolding changes
  length-changes = length-tab (change_count b) (change_at b)

  pub get_or-changes : (i : ℕ) (d : Change) → i < change_count b → get_or (changes b) i d ≡ change_at b i
  unfolding changes
  get_or-changes i d h = get_or-tab (change_count b) (change_at b) i d h

  pub length-lbns : length (lbns b) ≡ change_count b
  unfolding lbns change_count
  length-lbns = length_runs (pairs b)

  pub changes-lbns : map (λ (c : Change). c.lbn) (changes b) ≡ lbns b
  unfolding changes change_at
  changes-lbns =
      map-tab (λ (c : Change). c.lbn) (change_count b) (change_at b)
      ∙ tab-list (change_count b) (λ k. get_or (lbns b) k 0) (lbns b) 0 length-lbns (λ p h. refl)

  -- a fingerprint as a part of the fingerprints
  pub print-part : (n i : ℕ) → i < n → part (part b (prints_from b) (n * print_size)) (i * print_size) print_size ≡ (change_at b i).print
  unfolding change_at
  print-part n i h = part-part b (prints_from b) (n * print_size) (i * print_size) print_size (omega arith)

-- ---- a list with number 0
module _ (L : ℕ) (b : List ℕ) (good : list_number L b ≡ 0) where
  pub list-size : length b ≡ list_size b
  list-size = (number-accepted L b good).size

  -- E ≤ n ≤ L
  pub changes-within : change_count b ≤ L
  unfolding change_count
  changes-within = omega (arith, fit-sum L 0 (pairs b) zero-le (number-accepted L b good).fit)

  pub pairs-within : pair_count b ≤ change_count b
  unfolding change_count
  pairs-within = rw length_pairs at (fit_count L 0 (pairs b) (number-accepted L b good).fit)

  -- every pair has from 1 to max_run blocks, and they lie below L
  pub pair-bounds : (k : ℕ) → k < pair_count b
      → (0 < (pair_at b k).many) × ((pair_at b k).many ≤ max_run) × ((pair_at b k).first + (pair_at b k).many ≤ L)
  pair-bounds k h =
      rw (get_or-pairs b k (pair_at b k) h) at (fit-each L 0 (pairs b) (pair_at b k) k (number-accepted L b good).fit (rw length_pairs h))

  pub lbn-below : (i : ℕ) → i < change_count b → get_or (lbns b) i 0 < L
  unfolding lbns change_count
  lbn-below i h = (fit-bounds L 0 (pairs b) i (number-accepted L b good).fit h).1

  pub change_below : (i : ℕ) → i < change_count b → (change_at b i).lbn < L
  unfolding change_at
  change_below i h = lbn-below i h

  pub lbns-rise : (i j : ℕ) → i < j → j < change_count b → get_or (lbns b) i 0 < get_or (lbns b) j 0
  unfolding lbns change_count
  lbns-rise i j h k = fit-rise L 0 (pairs b) i j (number-accepted L b good).fit h k

  pub changes-rise : (i j : ℕ) → i < j → j < change_count b
      → get_or (map (λ (c : Change). c.lbn) (changes b)) i 0 < get_or (map (λ (c : Change). c.lbn) (changes b)) j 0
  changes-rise i j h k = rw (changes-lbns b) (lbns-rise i j h k)

-- a list with a longer pair is refused, whatever else it says
pub long-refused : (L : ℕ) (b : List ℕ) (k : ℕ) → k < pair_count b → max_run < (pair_at b k).many → list_number L b ≡ 8
long-refused L b k h long = ⊎_elim (λ good. absurd (omega (arith, pair-bounds L b good k h))) (λ e. e) (number-either L b)

-- ---- the parts of a list that is as long as its pairs say
module _ (b : List ℕ) (size : length b ≡ list_size b) (i : ℕ) (h : i < change_count b) where
  pub length-print : length (change_at b i).print ≡ print_size
  unfolding change_at prints_from list_size
  length-print = length_part b (2 + pair_count b * pair_size + i * print_size) print_size (omega arith)

  pub length-block : length (change_at b i).block ≡ block_size
  unfolding change_at blocks_from prints_from list_size
  length-block =
      length_part b (2 + pair_count b * pair_size + change_count b * print_size + i * block_size) block_size (omega arith)
