-- What clearing one cell of a volume, and all of them, answers and leaves, by the model's cells.
use Rattle.std.specs.Prelude.{ℕ, ◌≡◌, List, ⊤, Result, Ok, Err}
use Rattle.words.specs.Lent.{Lent}
use Rattle.words.specs.Lists.{up_from}
use Rattle.words.specs.Outcome.{Outcome, refused, accepted}
use Rattle.words.specs.Refusals.{number}
use Rattle.words.specs.declared.refusals.Refusal.{Refusal}
use Rattle.book.specs.Book.{Book, cell_at}
use Rattle.book.specs.Layout.{told, Holds}
use Rattle.model.specs.Retire.{clear_cell, clear_cells}

-- the model's clearing of volume v's cell at an LBN of book x, and of its cells from 0 on
abbrev pub clear_of : (v until lbn : ℕ) → Book → Outcome Book
clear_of v until lbn x = clear_cell v until lbn (cell_at x.maps v lbn) x

abbrev pub clear_all : (v until : ℕ) → Book → Outcome Book
clear_all v until x = clear_cells v until (up_from 0 x.sizes.l) x

-- one cell
unfoldable pub ClearedBy : Lent (List ℕ) → (v lbn until : ℕ) → Result ⊤ Refusal → Type 0
ClearedBy work v lbn until (Ok _) =
    (clear_of v until lbn (told work.entry) ≡ accepted (told work.exit)) × Holds work.exit.now
ClearedBy work v lbn until (Err e) = clear_of v until lbn (told work.entry) ≡ refused (number e)

-- all cells were cleared
pub record Cleared (work : Lent (List ℕ)) (v until : ℕ) : Type 0 where
  pub run : clear_all v until (told work.entry) ≡ accepted (told work.exit)
  pub holds : Holds work.exit.now
  pub sizes : (told work.exit).sizes ≡ (told work.entry).sizes
  pub slots : (told work.exit).slots ≡ (told work.entry).slots

unfoldable pub AllClearedBy : Lent (List ℕ) → (v until : ℕ) → Result ⊤ Refusal → Type 0
AllClearedBy work v until (Ok _) = Cleared work v until
AllClearedBy work v until (Err e) = clear_all v until (told work.entry) ≡ refused (number e)
