-- The table of all cells is the maps: replaying in it tests what audit's first sentence says.
use Rattle.std.specs.Prelude.{ℕ, ◌+◌, ◌*◌, Bool, List, get_or}
use Rattle.words.specs.Lists.{each}
use Rattle.book.specs.Book.{volumes, cell_at}
use Rattle.accounts.specs.Matching.{matching}
use Rattle.replay.specs.Table.{row_size}

-- ---- the maps are what the table holds

abbrev pub row_cell : List ℕ → ℕ → ℕ → ℕ
row_cell a v k = get_or a (v * row_size + k) 0

unfoldable pub row_matches : List (List ℕ) → ℕ → List ℕ → ℕ → Bool
row_matches ms l a v = matching (cell_at ms v) (row_cell a v) l

unfoldable pub table_matches : List (List ℕ) → ℕ → List ℕ → Bool
table_matches ms l a = each (row_matches ms l a) 0 volumes
