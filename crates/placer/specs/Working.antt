-- Where a backup stands between two changes: what the model's work is, by the bytes that the code holds.
use Rattle.std.specs.Prelude.{ℕ, ◌+◌, ◌*◌, ◌≤◌, ◌<◌, ◌≡◌, true, false, List, map, length, get_or}
use Rattle.words.specs.Choice.{when◌then◌else◌}
use Rattle.words.specs.Lists.{all, joined, up_from}
use Rattle.runs.specs.Changes.{change_count, change_at, list_number}
use Rattle.list.specs.declared.ChangeList.{ChangeList}
use Rattle.book.specs.Book.{Entry, Book, entry_at}
use Rattle.book.specs.Form.{pbn_ok}
use Rattle.model.specs.Pool.{pool_size, block_at}
use Rattle.model.specs.Backup.{Work}
use Rattle.placer.specs.declared.placing.Tally.{Tally}

-- `taker` has for a block that the changes took the change that took it.
-- the bytes of a held block: the pool's where the old book holds it, else those of the change that took it
unfoldable pub held_block : List Entry → List ℕ → List ℕ → List ℕ → ℕ → List ℕ
held_block old taker list pool p = when (entry_at old p).held then block_at pool p else (change_at list (get_or taker p 0)).block

-- the bytes of a block, held or not
unfoldable pub block_now : List Entry → List Entry → List ℕ → List ℕ → List ℕ → ℕ → List ℕ
block_now old new taker list pool p = when (entry_at new p).held then held_block old taker list pool p else block_at pool p

-- the pool as the model has it: the blocks taken so far are written
unfoldable pub pool_now : List Entry → List Entry → List ℕ → List ℕ → List ℕ → List ℕ
pool_now old new taker list pool = joined (map (block_now old new taker list pool) (up_from 0 (length old)))

-- the model's work, by the old book x and the working copy y
abbrev pub work_at : Book → List ℕ → Tally → Work
work_at y pool t = record { book = y; pool = pool; taken = t.taken; touched = t.touched }

abbrev pub work_of : Book → List ℕ → List ℕ → Book → List ℕ → Tally → Work
work_of x pool list y taker t = work_at y (pool_now x.entries y.entries taker list pool) t

-- what holds from the first change to the last
pub record Job (x : Book) (pool : List ℕ) (list : ChangeList) : Type 0 where
  pub size : length pool ≡ pool_size x.sizes.n
  pub good : list_number x.sizes.l list.bytes.now ≡ 0
  pub room : length x.records + change_count list.bytes.now ≤ x.sizes.j

-- what holds of the working copy y after i changes, of which blocks were taken by the first m
pub record Standing (x y : Book) (taker : List ℕ) (t : Tally) (m i : ℕ) : Type 0 where
  pub sizes : y.sizes ≡ x.sizes
  pub slots : y.slots ≡ x.slots
  pub cursor : y.cursor < y.sizes.n
  pub maps : all (all (pbn_ok y.sizes.n)) y.maps ≡ true
  pub records : length y.records ≡ length x.records + i
  pub kept : (p : ℕ) → (entry_at x.entries p).held ≡ true → (entry_at y.entries p).held ≡ true
  pub marks : (p : ℕ) → (entry_at x.entries p).held ≡ false → (entry_at y.entries p).held ≡ true → get_or taker p 0 < m
  pub table : length taker ≡ 4096
  pub taken : t.taken ≤ m
  pub touched : t.touched ≤ 2 * i

-- what pass 2 needs of the two books and the marks
pub record Storable (x y : Book) (pool : List ℕ) (list : ChangeList) (taker : List ℕ) : Type 0 where
  pub size : length pool ≡ pool_size x.sizes.n
  pub sizes : y.sizes ≡ x.sizes
  pub marks : (p : ℕ) → (entry_at x.entries p).held ≡ false → (entry_at y.entries p).held ≡ true
      → get_or taker p 0 < list.shape.changes
