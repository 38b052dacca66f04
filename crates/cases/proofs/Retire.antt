-- "An aid leaves the clinic" (document 02, K6), by computation: lists with retirements on both sides, and what a retirement leaves.
use Prim.Native.Nat.{ℕ}
use mathlib.Core.Path.{◌≡◌, refl}
use mathlib.Core.Bool.{true, false}
use mathlib.Core.List.{List, [], ◌∷◌, ◌++◌, map}
use lib.ListN.{take, drop, replicate}
use Rattle.words.specs.Blocks.{unmapped}
use Rattle.words.specs.Outcome.{accepted}
use Rattle.book.specs.Next.{new_sizes}
use Rattle.book.specs.Layout.{bytes, book_of}
use Rattle.model.specs.Calls.{Call, enrol, backup, collect, retire, read, audit, Answer, number, gave, backed, freed, block, sound}
use Rattle.model.specs.Sides.{Ours, answers_of, end_of, ours}
use Rattle.model.specs.Views.{volume_bytes, backups_bytes}
use Rattle.cases.proofs.Open.{model}
use Rattle.cases.proofs.Letters.{A, B, C, block_of, print_of, over, list, empty, four, box}
use Rattle.cases.proofs.Cases.{sizes, hold, none, keep, U, call_of, table, calls}
use Rattle.cases.proofs.Edges.{spare, our_end, Both, small}

-- "the answer is the number of cells"
abbrev cells : ℕ → Answer
cells k = gave (k ∷ [])

-- ---- a volume without backups: a slot without records. "5 also covers a retired volume for enrol, backup and retire", and a read has no
-- number to name

unfoldable pub unused : List Call
unused = enrol 0 9 ∷ retire 0 1 ∷ enrol 0 9 ∷ backup 0 2 empty ∷ retire 0 2 ∷ read 0 1 0 ∷ audit ∷ []

pub record Unused : Type 0 where
  pub both : Both small unused (number 0 ∷ cells 0 ∷ number 5 ∷ number 5 ∷ number 5 ∷ number 15 ∷ sound true ∷ [])
  pub slots : (book_of (our_end small unused).book).slots ≡ record { volume = 0; retire = true; day = 1; first = 0; number = 0 } ∷ []
  pub day : (book_of (our_end small unused).book).day ≡ 1

pub retired_unused : Unused
unfolding model empty unused
retired_unused = record { both = record { our_answers = refl; plain_answers = refl; alike = refl }; slots = refl; day = refl }

-- ---- 5 and 7 "apply as for a backup": not enrolled; above 60,000, below the header's day, on the day of the last backup; and "has no
-- number"

pub refused_as_a_backup : Both small
    (enrol 0 9
    ∷ backup 0 4 (list 0 (A ∷ []))
    ∷ retire 1 5
    ∷ retire 8 5
    ∷ retire 0 60001
    ∷ retire 0 3
    ∷ retire 0 4
    ∷ retire 0 5
    ∷ read 0 2 0
    ∷ read 0 1 0
    ∷ [])
    (number 0
    ∷ backed 1 1 1
    ∷ number 5
    ∷ number 5
    ∷ number 7
    ∷ number 7
    ∷ number 7
    ∷ cells 1
    ∷ number 15
    ∷ block (block_of A)
    ∷ [])
unfolding model over list
refused_as_a_backup = record { our_answers = refl; plain_answers = refl; alike = refl }

-- ---- 9 and 10: "the plain store's 9 and 10 count it and its cells"

-- two slots: the second is volume 0's retirement
pub slots-counted : Both (new_sizes 2 4 2 8)
    (enrol 0 9 ∷ enrol 1 9 ∷ backup 0 1 (list 0 (A ∷ [])) ∷ retire 0 2 ∷ backup 1 3 empty ∷ retire 1 3 ∷ [])
    (number 0 ∷ number 0 ∷ backed 1 1 1 ∷ cells 1 ∷ number 9 ∷ number 9 ∷ [])
unfolding model over list empty
slots-counted = record { our_answers = refl; plain_answers = refl; alike = refl }

-- four records: two are volume 0's backup, and two its retirement
pub records-counted : Both (new_sizes 2 4 4 4)
    (enrol 0 9 ∷ enrol 1 9 ∷ backup 0 1 (list 0 (A ∷ B ∷ [])) ∷ retire 0 2 ∷ backup 1 3 (list 0 (A ∷ [])) ∷ retire 1 3 ∷ audit ∷ [])
    (number 0 ∷ number 0 ∷ backed 1 2 2 ∷ cells 2 ∷ number 10 ∷ cells 0 ∷ sound true ∷ [])
unfolding model over list
records-counted = record { our_answers = refl; plain_answers = refl; alike = refl }

-- three: there is no room for the second of its cells
pub no_room_for_its_cells : Both (new_sizes 2 4 4 3)
    (enrol 0 9 ∷ backup 0 1 (list 0 (A ∷ B ∷ [])) ∷ retire 0 2 ∷ audit ∷ [])
    (number 0 ∷ backed 1 2 2 ∷ number 10 ∷ sound true ∷ [])
unfolding model over list
no_room_for_its_cells = record { our_answers = refl; plain_answers = refl; alike = refl }

-- ---- "Its old backups stay readable until their days run out, and the newest is no longer exempt": from its own day, and not from the
-- retirement's. Two cells name its block, so two records lower it

pub days-run-out : Both small
    (enrol 0 3
    ∷ backup 0 1 (list 0 (A ∷ A ∷ []))
    ∷ retire 0 3
    ∷ collect 4
    ∷ read 0 1 1
    ∷ collect 5
    ∷ read 0 1 1
    ∷ audit
    ∷ [])
    (number 0 ∷ backed 1 1 2 ∷ cells 2 ∷ freed 0 ∷ block (block_of A) ∷ freed 1 ∷ number 16 ∷ sound true ∷ [])
unfolding model over list
days-run-out = record { our_answers = refl; plain_answers = refl; alike = refl }

-- an aid that was idle for longer than its days: its newest is read up to the retirement, and gone with it
pub idle_aid : Both small
    (enrol 0 3 ∷ backup 0 1 (list 0 (A ∷ [])) ∷ collect 20 ∷ read 0 1 0 ∷ retire 0 20 ∷ read 0 1 0 ∷ collect 20 ∷ audit ∷ [])
    (number 0 ∷ backed 1 1 1 ∷ freed 0 ∷ block (block_of A) ∷ cells 1 ∷ number 16 ∷ freed 1 ∷ sound true ∷ [])
unfolding model over list
idle_aid = record { our_answers = refl; plain_answers = refl; alike = refl }

-- ---- after case d: volume 0, which keeps 10 days and was backed up on 5 and 8, is retired on 10, within them

unfoldable pub within : List Call
within = take 6 calls ++ (retire 0 10 ∷ [])

-- its newest has C and B up to day 18; B stays after that, as volume 1's
unfoldable pub later : List Call
later = read 0 1 0 ∷ read 0 2 1 ∷ collect 18 ∷ read 0 1 0 ∷ read 0 2 0 ∷ collect 19 ∷ read 0 2 0 ∷ read 1 2 3 ∷ audit ∷ []

pub record Within : Type 0 where
  pub both : Both sizes (within ++ later)
      (number 0 ∷ number 0 ∷ backed 1 2 2 ∷ backed 1 0 1 ∷ backed 2 1 2 ∷ backed 2 0 2
      ∷ cells 2
      ∷ block (block_of A)
      ∷ block (block_of B)
      ∷ freed 1
      ∷ number 16
      ∷ block (block_of C)
      ∷ freed 1
      ∷ number 16
      ∷ block (block_of B)
      ∷ sound true
      ∷ [])
  pub entries : map keep (book_of (our_end sizes within).book).entries ≡ four (hold 0 15 A) (hold 1 18 B) (hold 0 18 C) (none 0)
  pub maps : take 2 (book_of (our_end sizes within).book).maps ≡ four U U U U ∷ four U U U 1 ∷ []
  -- what a host is shown: the day of the retirement, and the backups alone, both with the last of their days
  pub volume : volume_bytes (our_end sizes within).book 0 ≡ accepted (record { retention = 10; backups = 2; retired = 10 })
  pub rows : backups_bytes (our_end sizes within).book 0 16
      ≡ accepted (5 ∷ 0 ∷ 2 ∷ 0 ∷ 15 ∷ 0 ∷ 1 ∷ 0 ∷ 8 ∷ 0 ∷ 1 ∷ 0 ∷ 18 ∷ 0 ∷ 1 ∷ 0 ∷ [])

pub retired-within-its-days : Within
unfolding model over list call_of keep table calls within later
retired-within-its-days = record {
  both = record { our_answers = refl; plain_answers = refl; alike = refl };
  entries = refl;
  maps = refl;
  volume = refl;
  rows = refl;
}

-- ---- after case d: volume 1, which keeps 3 days and was backed up on 6 and 9, is retired on 20, past them: its block's expiry is 9 + 3, and
-- not 20 + 3

unfoldable pub past : List Call
past = take 6 calls ++ (retire 1 20 ∷ [])

pub record Past : Type 0 where
  pub both : Both sizes (past ++ (read 1 2 3 ∷ read 1 1 3 ∷ collect 20 ∷ audit ∷ []))
      (number 0 ∷ number 0 ∷ backed 1 2 2 ∷ backed 1 0 1 ∷ backed 2 1 2 ∷ backed 2 0 2
      ∷ cells 1
      ∷ number 16
      ∷ number 16
      ∷ freed 1
      ∷ sound true
      ∷ [])
  pub entries : map keep (book_of (our_end sizes past).book).entries ≡ four (hold 0 15 A) (hold 1 12 B) (hold 1 0 C) (none 0)
  pub maps : take 2 (book_of (our_end sizes past).book).maps ≡ four 2 1 U U ∷ four U U U U ∷ []
  pub slot : drop 4 (book_of (our_end sizes past).book).slots ≡ record { volume = 1; retire = true; day = 20; first = 5; number = 1 } ∷ []
  pub recorded : drop 5 (book_of (our_end sizes past).book).records ≡ record { lbn = 3; before = 1; after = unmapped } ∷ []

pub retired-past-its-days : Past
unfolding model over list call_of keep table calls past
retired-past-its-days = record {
  both = record { our_answers = refl; plain_answers = refl; alike = refl };
  entries = refl;
  maps = refl;
  slot = refl;
  recorded = refl;
}

-- ---- "retiring takes book and spare": 4, and no 3

pub record Taken : Type 0 where
  pub short : (ours 279 (end_of (ours 280) (box sizes) (take 3 calls)) (retire 0 6)).answer ≡ number 4
  pub no_pool : (ours 280 (record { book = (end_of (ours 280) (box sizes) (take 3 calls)).book; pool = [] }) (retire 0 6)).answer ≡ cells 2

pub book-and-spare : Taken
unfolding model over list call_of table calls
book-and-spare = record { short = refl; no_pool = refl }

-- ---- 13 goes cell by cell: two cells name block A, and its count is 1; the first alone would be lowered

unfoldable pub miscounted : Ours
miscounted = record {
  book = bytes (record {
    sizes = small;
    day = 0;
    cursor = 0;
    retentions = 9 ∷ replicate 7 0;
    entries =
        record { count = 1; held = true; expiry = 0; print = print_of A }
        ∷ record { count = 0; held = false; expiry = 0; print = print_of 0 } ∷ [];
    maps = (0 ∷ unmapped ∷ 0 ∷ unmapped ∷ []) ∷ replicate 7 (replicate 4 unmapped);
    slots = [];
    records = [];
  });
  pool = block_of A ++ block_of B;
}

pub record Miscounted : Type 0 where
  pub answers : answers_of (ours spare) miscounted (audit ∷ retire 0 1 ∷ []) ≡ sound false ∷ number 13 ∷ []
  pub same : end_of (ours spare) miscounted (audit ∷ retire 0 1 ∷ []) ≡ miscounted

pub damage_is_13 : Miscounted
unfolding model miscounted
damage_is_13 = record { answers = refl; same = refl }
