-- The marked ones of the fingerprints and the blocks, and what the writer of the whole list requires.
use Rattle.std.specs.Prelude.{ℕ, ◌*◌, ◌≤◌, ◌≡◌, List, [], eqb, length}
use Rattle.words.specs.Choice.{when◌then◌else◌}
use Rattle.words.specs.Sections.{flat, part}
use Rattle.words.specs.Blocks.{block_size, print_size}
use Rattle.runs.specs.Writer.{marked_pairs, marked_from, marked_list}

-- the bytes of a block that is marked
unfoldable pub if_marked : ℕ → List ℕ → List ℕ
if_marked m bytes = when eqb m 1 then bytes else []

-- element l of those that are `size` bytes each, and the marked ones where the marks are those from LBN i on
unfoldable pub element : ℕ → List ℕ → ℕ → List ℕ
element size b l = part b (l * size) size

unfoldable pub marked_elements : ℕ → List ℕ → ℕ → List ℕ → List ℕ
marked_elements size b i ms = flat (element size b) (marked_from i ms)

-- what the writer of the whole list requires: E, inputs of as many elements as there are marks, and room for the list
pub record Room (out : List ℕ) (E : ℕ) (ms ps bs : List ℕ) : Type 0 where
  pub runs : E ≡ length (marked_pairs ms)
  pub most : length ms ≤ 1024
  pub prints : length ps ≡ length ms * print_size
  pub image : length bs ≡ length ms * block_size
  pub size : length (marked_list ms ps bs) ≤ length out
