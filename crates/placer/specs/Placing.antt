-- What steps 1 and 2 of a change answer and leave, by the model's `place`.
use Rattle.std.specs.Prelude.{ℕ, suc, ◌+◌, ◌<◌, ◌%◌, ◌≡◌, List, Result, Ok, Err}
use Rattle.words.specs.Lent.{Lent}
use Rattle.words.specs.Outcome.{refused, accepted}
use Rattle.runs.specs.Changes.{change_at}
use Rattle.book.specs.Book.{Book}
use Rattle.book.specs.Layout.{told, Holds}
use Rattle.book.specs.Next.{with_cursor, with_entry, held_as}
use Rattle.model.specs.Backup.{Work, place}
use Rattle.placer.specs.Working.{work_of, Standing}
use Rattle.placer.specs.declared.placing.Tally.{Tally}
use Rattle.words.specs.Refusals.{number}
use Rattle.words.specs.declared.PBN.{PBN}
use Rattle.words.specs.declared.refusals.Refusal.{Refusal}

-- the book with block p held with fingerprint f, and the cursor past it
abbrev pub taken_book : List ℕ → ℕ → Book → Book
taken_book f p x = with_cursor (suc p % x.sizes.n) (with_entry (held_as f) p x)

-- the model's work at the start of a call and at its end
abbrev pub work_from : (book pool work : Lent (List ℕ)) (list : List ℕ) (taker : Lent (List ℕ)) → Tally → Work
work_from book pool work list taker t =
    work_of (told book.entry) pool.entry.now list (told work.entry) taker.entry.now t

abbrev pub work_to : (book pool work : Lent (List ℕ)) (list : List ℕ) (taker : Lent (List ℕ)) → Tally → Work
work_to book pool work list taker t =
    work_of (told book.entry) pool.entry.now list (told work.exit) taker.exit.now t

-- steps 1 and 2 of change i
unfoldable pub PlacedBy : (book pool work : Lent (List ℕ)) (list : List ℕ) (taker : Lent (List ℕ)) → ℕ → Tally → Result (PBN × Tally) Refusal → Type 0
PlacedBy book pool work list taker i t (Ok (p, t')) =
    (place (change_at list i) (work_from book pool work list taker t)
    ≡ accepted (record { pbn = p.0; work = work_to book pool work list taker t' }))
    × ((told work.exit).maps ≡ (told work.entry).maps)
    × (p.0 < (told book.entry).sizes.n)
    × Holds work.exit.now
    × Standing (told book.entry) (told work.exit) taker.exit.now t' (i + 1) i
PlacedBy book pool work list taker i t (Err e) =
    place (change_at list i) (work_from book pool work list taker t) ≡ refused (number e)
