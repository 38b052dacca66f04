-- The change list (document 01, "Change list", and number 8).
use Rattle.std.specs.Prelude.{ℕ, ◌+◌, ◌*◌, Bool, true, not, ◌&&◌, List, [], ◌∷◌, map, length, get_or, leb, ltb, eqb}
use Rattle.words.specs.Blocks.{block_size, print_size}
use Rattle.words.specs.Choice.{when◌then◌else◌}
use Rattle.words.specs.Lists.{up_from, sum, joined}
use Rattle.words.specs.Numbers.{num}
use Rattle.words.specs.Sections.{tab, part}

-- a pair is two numbers of two bytes
abbrev pub pair_size : ℕ
pair_size = 4

-- "at most 64 blocks in one run" (document 02, K1)
abbrev pub max_run : ℕ
max_run = 64

-- "pairs of u16 first LBN and length"
pub record Pair : Type 0 where
  pub first : ℕ
  pub many : ℕ

-- a changed block: its LBN, its fingerprint, its bytes
pub record Change : Type 0 where
  pub lbn : ℕ
  pub print : List ℕ
  pub block : List ℕ

-- "u16 E; E pairs"; a byte past the list's end reads as 0
unfoldable pub pair_count : List ℕ → ℕ
pair_count b = num b 0

unfoldable pub pair_at : List ℕ → ℕ → Pair
pair_at b i = record { first = num b (2 + i * pair_size); many = num b (2 + i * pair_size + 2) }

unfoldable pub pairs : List ℕ → List Pair
pairs b = tab (pair_count b) (pair_at b)

-- "n is the sum of lengths"
abbrev pub lengths : List Pair → List ℕ
lengths ps = map (λ (p : Pair). p.many) ps

unfoldable pub change_count : List ℕ → ℕ
change_count b = sum (lengths (pairs b))

-- the LBNs, pair after pair
abbrev pub run : Pair → List ℕ
run p = up_from p.first p.many

unfoldable pub lbns : List ℕ → List ℕ
lbns b = joined (map run (pairs b))

-- "n fingerprints; n blocks": where each section starts
unfoldable pub prints_from : List ℕ → ℕ
prints_from b = 2 + pair_count b * pair_size

unfoldable pub blocks_from : List ℕ → ℕ
blocks_from b = prints_from b + change_count b * print_size

-- "the bytes number 2 + 4E + 528n"
unfoldable pub list_size : List ℕ → ℕ
list_size b = 2 + pair_count b * pair_size + change_count b * (print_size + block_size)

-- change i, counted from 0, and all changes in order
unfoldable pub change_at : List ℕ → ℕ → Change
change_at b i = record {
  lbn = get_or (lbns b) i 0;
  print = part b (prints_from b + i * print_size) print_size;
  block = part b (blocks_from b + i * block_size) block_size;
}

unfoldable pub changes : List ℕ → List Change
changes b = tab (change_count b) (change_at b)

-- a pair's own tests: its length is from 1 to max_run, it starts at `end` or later, where the last one ended, and it doesn't pass L
abbrev pub pair_fits : ℕ → ℕ → ℕ → ℕ → Bool
pair_fits L end first many = not (eqb many 0) && leb many max_run && leb end first && leb (first + many) L

abbrev pub pairs_fit : ℕ → ℕ → List Pair → Bool
pairs_fit L end [] = true
pairs_fit L end (p ∷ ps) = pair_fits L end p.first p.many && pairs_fit L (p.first + p.many) ps

-- number 8
unfoldable pub list_number : ℕ → List ℕ → ℕ
list_number L b =
    when ltb (length b) 2 then 8 else
    when not (pairs_fit L 0 (pairs b)) then 8 else
    when not (eqb (length b) (list_size b)) then 8 else
    0
