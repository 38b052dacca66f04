-- "kept so many days from the day it was taken" (document 02, K4), by computation on both sides.
use mathlib.Core.Path.{◌≡◌, refl}
use mathlib.Core.Bool.{true, false}
use mathlib.Core.List.{List, [], ◌∷◌, ◌++◌, map}
use lib.ListN.{take, replicate}
use Rattle.words.specs.Blocks.{unmapped}
use Rattle.book.specs.Book.{entry_at}
use Rattle.book.specs.Next.{new_sizes}
use Rattle.book.specs.Layout.{bytes, book_of}
use Rattle.model.specs.Calls.{Call, enrol, backup, collect, read, audit, Answer, number, backed, freed, block, sound}
use Rattle.model.specs.Sides.{Ours, answers_of, end_of, ours}
use Rattle.cases.proofs.Open.{model}
use Rattle.cases.proofs.Letters.{A, B, block_of, print_of, over, list, empty, box}
use Rattle.cases.proofs.Cases.{sizes, call_of, table, calls}
use Rattle.cases.proofs.Edges.{spare, Both, small}

-- what our side and the plain store say after calls, of one call each
abbrev our_next : List Call → List Call → List Answer
our_next before cs = map (λ c. (ours spare (end_of (ours spare) (box sizes) before) c).answer) cs

-- ---- "block 0 has expiry 15 after c and d, and after d would be freed by a collect on 16"

pub record AfterD : Type 0 where
  pub expiries : map (λ k. (entry_at (book_of (end_of (ours spare) (box sizes) (take k calls)).book).entries 0).expiry) (5 ∷ 6 ∷ []) ≡ 15 ∷ 15 ∷ []
  pub frees : our_next (take 6 calls) (collect 15 ∷ collect 16 ∷ []) ≡ freed 0 ∷ freed 1 ∷ []
  pub reads : our_next (take 6 calls ++ (collect 15 ∷ [])) (read 0 1 0 ∷ []) ≡ block (block_of A) ∷ []

pub freed_on_16 : AfterD
unfolding model over list call_of table calls
freed_on_16 = record { expiries = refl; frees = refl; reads = refl }

-- ---- a block counts from the last backup that had it, not from the one that brought it: backup 2 of day 5 sent nothing, and has A too

pub last_that_had_it : Both small
    (enrol 0 3
    ∷ backup 0 1 (list 0 (A ∷ []))
    ∷ backup 0 5 empty
    ∷ backup 0 6 (list 0 (B ∷ []))
    ∷ collect 8
    ∷ read 0 1 0
    ∷ read 0 2 0
    ∷ collect 9
    ∷ read 0 2 0
    ∷ audit
    ∷ [])
    (number 0
    ∷ backed 1 1 1
    ∷ backed 2 0 0
    ∷ backed 3 1 2
    ∷ freed 0
    ∷ number 16
    ∷ block (block_of A)
    ∷ freed 1
    ∷ number 16
    ∷ sound true
    ∷ [])
unfolding model over list empty
last_that_had_it = record { our_answers = refl; plain_answers = refl; alike = refl }

-- ---- after a long pause: the newest is kept however old it is, and gone the moment the next one is taken

pub after_a_long_pause : Both small
    (enrol 0 3
    ∷ backup 0 1 (list 0 (A ∷ []))
    ∷ collect 60
    ∷ read 0 1 0
    ∷ backup 0 61 (list 0 (B ∷ []))
    ∷ read 0 1 0
    ∷ collect 61
    ∷ audit
    ∷ [])
    (number 0 ∷ backed 1 1 1 ∷ freed 0 ∷ block (block_of A) ∷ backed 2 1 2 ∷ number 16 ∷ freed 1 ∷ sound true ∷ [])
unfolding model over list
after_a_long_pause = record { our_answers = refl; plain_answers = refl; alike = refl }

-- ---- each volume counts from its own last backup: volume 1's on day 8 doesn't keep volume 0's A

pub own-volume : Both (new_sizes 3 2 6 8)
    (enrol 0 3
    ∷ enrol 1 3
    ∷ backup 0 1 (list 0 (A ∷ []))
    ∷ backup 1 8 empty
    ∷ backup 0 9 (list 0 (B ∷ []))
    ∷ collect 9
    ∷ audit
    ∷ [])
    (number 0 ∷ number 0 ∷ backed 1 1 1 ∷ backed 1 0 0 ∷ backed 2 1 2 ∷ freed 1 ∷ sound true ∷ [])
unfolding model over list empty
own-volume = record { our_answers = refl; plain_answers = refl; alike = refl }

-- ---- "or 0 where a damaged book has none": a cell names block A, and its volume, which keeps 9 days, has no backup

unfoldable pub unrecorded : Ours
unrecorded = record {
  book = bytes (record {
    sizes = small;
    day = 4;
    cursor = 0;
    retentions = 9 ∷ replicate 7 0;
    entries =
        record { count = 1; held = true; expiry = 0; print = print_of A }
        ∷ record { count = 0; held = false; expiry = 0; print = replicate 16 0 } ∷ [];
    maps = (0 ∷ unmapped ∷ unmapped ∷ unmapped ∷ []) ∷ replicate 7 (replicate 4 unmapped);
    slots = [];
    records = [];
  });
  pool = block_of A ++ block_of B;
}

unfoldable pub recording : Call
recording = backup 0 5 (list 0 (B ∷ []))

pub record Unrecorded : Type 0 where
  pub answers : answers_of (ours spare) unrecorded (audit ∷ recording ∷ audit ∷ []) ≡ sound false ∷ backed 1 1 2 ∷ sound false ∷ []
  pub expiry : (entry_at (book_of (ours spare unrecorded recording).next.book).entries 0).expiry ≡ 9

pub none_before : Unrecorded
unfolding model over list unrecorded recording
none_before = record { answers = refl; expiry = refl }
