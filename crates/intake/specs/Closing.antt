-- What both passes of a backup leave, and the end of the call.
use Rattle.std.specs.Prelude.{ℕ, ◌≡◌, false, List, length, Result, Ok, Err}
use Rattle.words.specs.Lent.{Lent}
use Rattle.words.specs.Outcome.{refused, accepted}
use Rattle.runs.specs.Changes.{change_count, changes}
use Rattle.book.specs.Book.{Book}
use Rattle.book.specs.Layout.{told, Is}
use Rattle.book.specs.Next.{with_day, with_slot}
use Rattle.model.specs.Backup.{run_changes, begun}
use Rattle.placer.specs.Working.{work_at}
use Rattle.placer.specs.declared.placing.Tally.{Tally}
use Rattle.words.specs.Refusals.{number}
use Rattle.words.specs.declared.refusals.Refusal.{Refusal}

-- "Then a slot is added and day becomes T"
abbrev pub closed_book : ℕ → ℕ → ℕ → ℕ → Book → Book
closed_book v t first n y = with_day t (with_slot (record { volume = v; retire = false; day = t; first = first; number = n }) y)

-- all changes were made: the pool has them, and the working copy is the book after the call
pub record Worked (book pool work : Lent (List ℕ)) (list : List ℕ) (v t until : ℕ) (tally : Tally) : Type 0 where
  pub made : Book
  pub run : run_changes v until (changes list) (begun (told book.entry) pool.entry.now)
      ≡ accepted (work_at made pool.exit.now tally)
  pub closed : Is work.exit.now
      (closed_book v t (length (told book.entry).records) (change_count list) made)

-- both passes
unfoldable pub WorkedBy : (book pool work : Lent (List ℕ)) (list : List ℕ) → (v t until : ℕ) → Result Tally Refusal → Type 0
WorkedBy book pool work list v t until (Ok tally) = Worked book pool work list v t until tally
WorkedBy book pool work list v t until (Err e) =
    (run_changes v until (changes list) (begun (told book.entry) pool.entry.now) ≡ refused (number e))
    × (pool.exit.now ≡ pool.entry.now)
