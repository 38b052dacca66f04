-- A run of an image, which gives a block number for each LBN: the checks past number 16, and the blocks.
use Rattle.std.specs.Prelude.{ℕ, ◌+◌, ◌-◌, ◌*◌, ◌≤◌, ◌<◌, Bool, not, List, eqb, length, get_or}
use Rattle.words.specs.Blocks.{block_size, unmapped}
use Rattle.words.specs.Choice.{when◌then◌else◌}
use Rattle.words.specs.Lists.{some_of, up_from}
use Rattle.words.specs.Outcome.{Outcome, accepted, unless}
use Rattle.words.specs.Sections.{flat}
use Rattle.book.specs.Book.{Book}
use Rattle.model.specs.JournalAt.{image_from}
use Rattle.model.specs.Pool.{block_at}
use Rattle.model.specs.Restore.{run_number}
use Rattle.imager.specs.Imaging.{image_size}

-- ---- as the code has it: an image in a table

abbrev pub mapped_at : List ℕ → ℕ → Bool
mapped_at a l = not (eqb (get_or a l 0) unmapped)

-- the LBNs from `first` up to `end` are in the table, their blocks in the pool, and the output has room for them
pub record Inside (pool a : List ℕ) (first end room : ℕ) : Type 0 where
  pub order : first ≤ end
  pub table : end ≤ image_size
  pub fits : (end - first) * block_size ≤ room
  pub blocks : (l : ℕ) → first ≤ l → l < end → get_or a l 0 * block_size + block_size ≤ length pool

-- ---- as the definitions have it

unfoldable pub blocks_from : List ℕ → (ℕ → ℕ) → ℕ → ℕ → List ℕ
blocks_from pool image first many = flat (λ l. block_at pool (image l)) (up_from first many)

-- 18, or the blocks
unfoldable pub run_from : List ℕ → (ℕ → ℕ) → ℕ → ℕ → Outcome (List ℕ)
run_from pool image first many =
    unless (when some_of (λ l. eqb (image l) unmapped) (up_from first many) then 18 else 0) (accepted (blocks_from pool image first many))

-- from number 21 on, where the volume's later backups are in the slots from `at` on
unfoldable pub restored_from : Book → List ℕ → ℕ → ℕ → ℕ → ℕ → ℕ → Outcome (List ℕ)
restored_from x pool v at first many room =
    unless (run_number x.sizes.l first many room) (run_from pool (image_from x v at) first many)
