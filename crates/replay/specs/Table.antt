-- Records replayed in one table of all cells: the cell of volume v at an LBN stands at v * 1024 + LBN.
use Rattle.std.specs.Prelude.{ℕ, ◌+◌, ◌*◌, Bool, true, ◌&&◌, List, [], ◌∷◌, eqb, get_or, set}
use Rattle.book.specs.Book.{Rec}
use Rattle.model.specs.Journal.{Backup}

-- the cells of a volume
abbrev pub row_size : ℕ
row_size = 1024

-- ---- records replayed in a table, those of a volume from its first cell o on

abbrev pub cells_after : ℕ → List ℕ → List Rec → List ℕ
cells_after o a [] = a
cells_after o a (r ∷ rs) = cells_after o (set a (o + r.lbn) r.after) rs

abbrev pub cells_before : ℕ → List ℕ → List Rec → Bool
cells_before o a [] = true
cells_before o a (r ∷ rs) = eqb (get_or a (o + r.lbn) 0) r.before && cells_before o (set a (o + r.lbn) r.after) rs

abbrev pub table_after : List ℕ → List Backup → List ℕ
table_after a [] = a
table_after a (b ∷ bs) = table_after (cells_after (b.volume * row_size) a b.records) bs

abbrev pub table_befores : List ℕ → List Backup → Bool
table_befores a [] = true
table_befores a (b ∷ bs) =
    cells_before (b.volume * row_size) a b.records
    && table_befores (cells_after (b.volume * row_size) a b.records) bs
