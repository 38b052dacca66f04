-- What steps 3 and 4, a change and all changes answer and leave, by the model's steps.
use Rattle.std.specs.Prelude.{ℕ, ◌+◌, ◌≡◌, not, ◌&&◌, true, List, eqb, is_ok, ⊤, Result, Ok, Err}
use Rattle.words.specs.Blocks.{unmapped}
use Rattle.words.specs.Lent.{Lent}
use Rattle.words.specs.Outcome.{Outcome, refused, accepted}
use Rattle.runs.specs.Changes.{change_count, change_at, changes}
use Rattle.book.specs.Book.{Entry, Book, entry_at, cell_at}
use Rattle.book.specs.Layout.{told, Holds, Is}
use Rattle.book.specs.Next.{with_entries}
use Rattle.model.specs.Backup.{Work, lower, move_to, change_step, run_changes}
use Rattle.finder.specs.Indexed.{Indexed}
use Rattle.finder.specs.declared.finding.Index.{Index}
use Rattle.placer.specs.Placing.{work_from, work_to}
use Rattle.placer.specs.Working.{work_at, Standing}
use Rattle.placer.specs.declared.placing.Tally.{Tally}
use Rattle.words.specs.Choice.{when◌then◌else◌}
use Rattle.words.specs.Refusals.{number, refusal_number}
use Rattle.words.specs.declared.refusals.Refusal.{Refusal}

-- number 13
abbrev pub zero_number : List Entry → ℕ → ℕ
zero_number es before = when not (eqb before unmapped) && eqb (entry_at es before).count 0 then 13 else 0

-- step 3 on the working copy: its number, or what it leaves
pub record LoweredBy (work : Lent (List ℕ)) (before until : ℕ) (r : Result ⊤ Refusal) : Type 0 where
  pub number : refusal_number r ≡ zero_number (told work.entry).entries before
  pub book : is_ok r ≡ true
      → Is work.exit.now (with_entries (lower until before (told work.entry).entries) (told work.entry))

-- the model's steps 3 and 4: volume v's cell at an LBN of book x goes to block p
abbrev pub move_of : Book → (v lbn p until : ℕ) → List ℕ → Tally → Outcome Work
move_of x v lbn p until pool t =
    move_to v until lbn (cell_at x.maps v lbn) (record { pbn = p; work = work_at x pool t })

-- steps 3 and 4, whatever the pool
unfoldable pub MovedBy : Lent (List ℕ) → (v lbn p until : ℕ) → Tally → Result Tally Refusal → Type 0
MovedBy work v lbn p until t (Ok t') =
    ((pool : List ℕ) → move_of (told work.entry) v lbn p until pool t ≡ accepted (work_at (told work.exit) pool t'))
    × Holds work.exit.now
MovedBy work v lbn p until t (Err e) = (pool : List ℕ) → move_of (told work.entry) v lbn p until pool t ≡ refused (number e)

-- change i
unfoldable pub SteppedBy : (book pool work : Lent (List ℕ)) (list : List ℕ) (taker : Lent (List ℕ)) → (v until i : ℕ) → Tally → Result Tally Refusal → Type 0
SteppedBy book pool work list taker v until i t (Ok t') =
    (change_step v until (change_at list i) (work_from book pool work list taker t)
    ≡ accepted (work_to book pool work list taker t'))
    × Holds work.exit.now
    × Standing (told book.entry) (told work.exit) taker.exit.now t' (i + 1) (i + 1)
SteppedBy book pool work list taker v until i t (Err e) =
    change_step v until (change_at list i) (work_from book pool work list taker t) ≡ refused (number e)

-- the index is still that of the working copy, unless the change was refused
unfoldable pub StillIndexed : Lent (List ℕ) → Lent Index → Result Tally Refusal → Type 0
StillIndexed work index (Ok t) = Indexed (told work.exit).entries index.exit.now.heads index.exit.now.nexts
StillIndexed work index (Err e) = Unit {0}

-- nothing is counted yet
abbrev pub no_tally : Tally
no_tally = record { taken = 0; touched = 0 }

-- all changes
unfoldable pub RanBy : (book pool work : Lent (List ℕ)) (list : List ℕ) (taker : Lent (List ℕ)) → (v until : ℕ) → Result Tally Refusal → Type 0
RanBy book pool work list taker v until (Ok t') =
    (run_changes v until (changes list) (work_from book pool work list taker no_tally)
    ≡ accepted (work_to book pool work list taker t'))
    × Holds work.exit.now
    × Standing (told book.entry) (told work.exit) taker.exit.now t'
    (change_count list) (change_count list)
RanBy book pool work list taker v until (Err e) =
    run_changes v until (changes list) (work_from book pool work list taker no_tally) ≡ refused (number e)
