-- The first record of each LBN in a backup, found by a stamp for each LBN.
use Rattle.std.specs.Prelude.{ℕ, Bool, true, ◌&&◌, ◌||◌, List, [], ◌∷◌, eqb, get_or, set}
use Rattle.book.specs.Book.{Rec, Book}
use Rattle.model.specs.Audit.{cell_sound}

-- the backup's day is past, or each record whose LBN has not the stamp k yet has a before that is unmapped or held
abbrev pub firsts_sound : Book → Bool → ℕ → List ℕ → List Rec → Bool
firsts_sound x past k a [] = true
firsts_sound x past k a (r ∷ rs) =
    ((past || eqb (get_or a r.lbn 0) k) || cell_sound x r.before) && firsts_sound x past k (set a r.lbn k) rs

-- the stamps after the records
abbrev pub stamped : ℕ → List ℕ → List Rec → List ℕ
stamped k a [] = a
stamped k a (r ∷ rs) = stamped k (set a r.lbn k) rs
