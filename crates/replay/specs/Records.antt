-- The records of a backup, taken once: each is replayed in the cells, raises the expiry of its before, and stamps its
-- LBN.
use Rattle.std.specs.Prelude.{ℕ, ◌+◌, ◌*◌, ◌≡◌, Bool, ◌&&◌, ◌||◌, List, eqb, get_or, set}
use Rattle.book.specs.Book.{Rec, Book}
use Rattle.model.specs.Audit.{cell_sound}
use Rattle.due.specs.Expiries.{Raised, until_one, until_each}
use Rattle.replay.specs.Stamps.{firsts_sound, stamped}
use Rattle.replay.specs.Table.{row_size, cells_after, cells_before}
use Rattle.replay.specs.declared.records.Taking.{Taking}

-- what is noted on the way
pub record Notes : Type 0 where
  pub cells : List ℕ
  pub expiries : List ℕ
  pub stamps : List ℕ

abbrev pub notes : List ℕ → List ℕ → List ℕ → Notes
notes c e s = record { cells = c; expiries = e; stamps = s }

-- what one record of a backup leaves, and its test: its before is the cell that it replaces, and a first one that still
-- counts is unmapped or held
pub record RecordTaken (x : Book) (t : Taking) (r : Rec) (good : Bool) (n n' : Notes) : Type 0 where
  pub test : good ≡
      (eqb (get_or n.cells (t.volume * row_size + r.lbn) 0) r.before
      && ((t.past || eqb (get_or n.stamps r.lbn 0) t.stamp) || cell_sound x r.before))
  pub cells : n'.cells ≡ set n.cells (t.volume * row_size + r.lbn) r.after
  pub expiries : Raised n.expiries (until_one t.until r.before) n'.expiries
  pub stamps : n'.stamps ≡ set n.stamps r.lbn t.stamp

-- the tests of all records of a backup
abbrev pub records_test : Book → Taking → Notes → List Rec → Bool
records_test x t n rs =
    cells_before (t.volume * row_size) n.cells rs && firsts_sound x t.past t.stamp n.stamps rs

pub record RecordsTaken (x : Book) (t : Taking) (rs : List Rec) (good : Bool) (n n' : Notes) : Type 0 where
  pub test : good ≡ records_test x t n rs
  pub cells : n'.cells ≡ cells_after (t.volume * row_size) n.cells rs
  pub expiries : Raised n.expiries (until_each t.until rs) n'.expiries
  pub stamps : n'.stamps ≡ stamped t.stamp n.stamps rs
