-- What the work on the copy leaves: the cells cleared, and the end of the call.
use Rattle.std.specs.Prelude.{ℕ, ◌≡◌, true, List, length, ⊤, Result, Ok, Err}
use Rattle.words.specs.Lent.{Lent}
use Rattle.words.specs.Outcome.{refused, accepted}
use Rattle.words.specs.Refusals.{number}
use Rattle.words.specs.declared.refusals.Refusal.{Refusal}
use Rattle.book.specs.Book.{Book}
use Rattle.book.specs.Layout.{told, Is}
use Rattle.book.specs.Next.{with_day, with_slot}
use Rattle.retirer.specs.Clearing.{clear_all}

-- "a backup slot whose second byte is 1"; "day becomes T"
abbrev pub closed_book : ℕ → ℕ → ℕ → ℕ → Book → Book
closed_book v t first n y =
    with_day t (with_slot (record { volume = v; retire = true; day = t; first = first; number = n }) y)

-- all cells were cleared, and the working copy is the book after the call
pub record Worked (work : Lent (List ℕ)) (v t until cells : ℕ) : Type 0 where
  pub made : Book
  pub run : clear_all v until (told work.entry) ≡ accepted made
  pub closed : Is work.exit.now (closed_book v t (length (told work.entry).records) cells made)

unfoldable pub WorkedBy : Lent (List ℕ) → (v t until cells : ℕ) → Result ⊤ Refusal → Type 0
WorkedBy work v t until cells (Ok _) = Worked work v t until cells
WorkedBy work v t until cells (Err e) = clear_all v until (told work.entry) ≡ refused (number e)
