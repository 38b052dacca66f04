-- Retire (document 02, K6), from number 5 on: the numbers, one cell after the other, and what it leaves.
use Rattle.std.specs.Prelude.{ℕ, ◌+◌, true, not, ◌||◌, List, [], ◌∷◌, length, get_or, leb, ltb, eqb}
use Rattle.words.specs.Blocks.{unmapped}
use Rattle.words.specs.Choice.{when◌then◌else◌}
use Rattle.words.specs.Lists.{count_of, up_from}
use Rattle.words.specs.Outcome.{Outcome, accepted, and_then, unless}
use Rattle.book.specs.Book.{Book, entry_at, cell_at}
use Rattle.book.specs.Next.{with_day, with_entries, with_cell, with_record, with_slot}
use Rattle.model.specs.Days.{bad_day, not_after}
use Rattle.model.specs.Journal.{days, no_living}
use Rattle.model.specs.Backup.{lower, until_next}

-- "the answer is the number of cells": of those that are mapped
unfoldable pub mapped_cells : Book → ℕ → ℕ
mapped_cells x v = count_of (λ p. not (eqb p unmapped)) (get_or x.maps v [])

-- numbers 5, 7, 9 and 10, "as for a backup": it takes a slot, and as many records as there are cells
unfoldable pub retire_number : Book → ℕ → ℕ → ℕ
retire_number x v t =
    when no_living x v then 5 else
    when bad_day x.day t || not_after (days x v) t then 7 else
    when leb x.sizes.s (length x.slots) then 9 else
    when ltb x.sizes.j (length x.records + mapped_cells x v) then 10 else
    0

-- ---- the cells

-- 13, of a mapped cell: "before's count is 0"
unfoldable pub clear_number : Book → ℕ → ℕ
clear_number x before = when eqb (entry_at x.entries before).count 0 then 13 else 0

-- "a record with after 65,535 for each mapped cell"; "Counts and expiries move as in step 3, the map becomes unmapped"
unfoldable pub cleared : ℕ → ℕ → ℕ → ℕ → Book → Book
cleared v until lbn before x =
    with_record (record { lbn = lbn; before = before; after = unmapped })
    (with_cell v lbn unmapped (with_entries (lower until before x.entries) x))

unfoldable pub clear_cell : ℕ → ℕ → ℕ → ℕ → Book → Outcome Book
clear_cell v until lbn before x =
    when eqb before unmapped then accepted x else
    unless (clear_number x before) (accepted (cleared v until lbn before x))

-- "by LBN"
abbrev pub clear_cells : ℕ → ℕ → List ℕ → Book → Outcome Book
clear_cells v until [] x = accepted x
clear_cells v until (l ∷ ls) x = and_then (clear_cell v until l (cell_at x.maps v l) x) (λ y. clear_cells v until ls y)

-- ---- the whole call

pub record Retired : Type 0 where
  pub book : Book
  pub cells : ℕ

-- "Retiring a volume on day T takes a backup slot whose second byte is 1 ..; day becomes T, and the answer is the number of cells"; y is the
-- book with its cells cleared
unfoldable pub retired : Book → ℕ → ℕ → Book → Retired
retired x v t y = record {
  book =
      with_day t
      (with_slot (record { volume = v; retire = true; day = t; first = length x.records; number = mapped_cells x v }) y);
  cells = mapped_cells x v;
}

unfoldable pub retire : Book → ℕ → ℕ → Outcome Retired
retire x v t =
    unless (retire_number x v t)
    (and_then (clear_cells v (until_next x v) (up_from 0 x.sizes.l) x) (λ y. accepted (retired x v t y)))
