-- Edges that cases a to j don't show, by computation on both sides.
use Prim.Native.Nat.{ℕ}
use mathlib.Core.Path.{◌≡◌, refl}
use mathlib.Core.Bool.{true, false}
use mathlib.Core.List.{List, [], ◌∷◌, ◌++◌, map}
use lib.ListN.{get_or, replicate}
use Rattle.words.specs.Blocks.{unmapped}
use Rattle.words.specs.Lists.{up_from}
use Rattle.book.specs.Book.{Sizes, entry_at}
use Rattle.book.specs.Next.{new_sizes}
use Rattle.book.specs.Layout.{bytes, book_of}
use Rattle.model.specs.Plain.{free, held, image, Plain, start}
use Rattle.model.specs.Calls.{Call, enrol, backup, collect, read, audit, Answer, number, backed, freed, block, sound}
use Rattle.model.specs.Sides.{Ours, answers_of, end_of, ours, plain, ours_shown, plain_shown}
use Rattle.cases.proofs.Open.{model}
use Rattle.cases.proofs.Letters.{A, B, C, D, E, F, block_of, print_of, over, list, empty, box}

-- a spare that is long enough for every book here
abbrev pub spare : ℕ
spare = 9999

-- where a fresh book of these sizes, and its plain store, stand after a list
abbrev pub our_end : Sizes → List Call → Ours
our_end z cs = end_of (ours spare) (box z) cs

abbrev pub plain_end : Sizes → List Call → Plain
plain_end z cs = end_of plain (start z) cs

-- both sides answer so, and show the same after it
pub record Both (z : Sizes) (cs : List Call) (answers : List Answer) : Type 0 where
  pub our_answers : answers_of (ours spare) (box z) cs ≡ answers
  pub plain_answers : answers_of plain (start z) cs ≡ answers
  pub alike : ours_shown (our_end z cs) ≡ plain_shown (plain_end z cs)

abbrev pub small : Sizes
small = new_sizes 2 4 4 8

-- ---- "A blank page fills many cells on every aid, and a clinic met number 14" (document 02, K3): 255 cells name block A and one names
-- block B; then A gets that one, and another

abbrev pub crowded_sizes : Sizes
crowded_sizes = new_sizes 2 33 9 2

unfoldable pub crowded_maps : List (List ℕ)
crowded_maps = replicate 7 (replicate 32 0 ++ (unmapped ∷ [])) ++ ((replicate 31 0 ++ (1 ∷ unmapped ∷ [])) ∷ [])

unfoldable pub crowded : Ours
crowded = record {
  book = bytes (record {
    sizes = crowded_sizes;
    day = 0;
    cursor = 0;
    retentions = replicate 8 9;
    entries =
        record { count = 255; held = true; expiry = 0; print = print_of A }
        ∷ record { count = 1; held = true; expiry = 0; print = print_of B }
        ∷ [];
    maps = crowded_maps;
    slots = map (λ v. record { volume = v; retire = false; day = 0; first = 0; number = 0 }) (up_from 0 8);
    records = [];
  });
  pool = block_of A ++ block_of B;
}

unfoldable pub plain_crowded : Plain
plain_crowded = record {
  sizes = crowded_sizes;
  day = 0;
  cursor = 0;
  blocks = held (print_of A) (block_of A) ∷ held (print_of B) (block_of B) ∷ [];
  retentions = replicate 8 9;
  taken = map (λ v. record { volume = v; day = 0; what = image (get_or crowded_maps v []); changes = 0 }) (up_from 0 8);
}

unfoldable pub crowding : Call
crowding = backup 7 1 (list 31 (A ∷ A ∷ []))

pub record Crowded : Type 0 where
  pub alike : ours_shown crowded ≡ plain_shown plain_crowded
  pub answer : (ours spare crowded crowding).answer ≡ backed 2 0 3
  pub count : (entry_at (book_of (ours spare crowded crowding).next.book).entries 0).count ≡ 257
  pub plain_answer : (plain plain_crowded crowding).answer ≡ backed 2 0 3
  pub alike_after : ours_shown (ours spare crowded crowding).next ≡ plain_shown (plain plain_crowded crowding).next

pub past_255 : Crowded
unfolding model over list crowded_maps crowded plain_crowded crowding
past_255 = record { alike = refl; answer = refl; count = refl; plain_answer = refl; alike_after = refl }

-- ---- "keeping half a refused list": refused at the first, a middle and the last change

unfoldable pub kept : List Call
kept = enrol 0 9 ∷ backup 0 1 (list 0 (A ∷ [])) ∷ []

unfoldable pub halves : List Call
halves =
    backup 0 2 (over 1 (A ∷ B ∷ []) (F ∷ B ∷ []))
    ∷ backup 0 2 (over 1 (B ∷ A ∷ C ∷ []) (B ∷ F ∷ C ∷ []))
    ∷ backup 0 2 (list 1 (A ∷ B ∷ C ∷ []))
    ∷ []

unfoldable pub plain_kept : Plain
plain_kept = record {
  sizes = small;
  day = 1;
  cursor = 1;
  blocks = held (print_of A) (block_of A) ∷ free ∷ [];
  retentions = 9 ∷ replicate 7 0;
  taken = record { volume = 0; day = 1; what = image (0 ∷ unmapped ∷ unmapped ∷ unmapped ∷ []); changes = 1 } ∷ [];
}

pub record Halves : Type 0 where
  pub both : Both small (kept ++ halves) (number 0 ∷ backed 1 1 1 ∷ number 11 ∷ number 11 ∷ number 12 ∷ [])
  pub ours : our_end small (kept ++ halves) ≡ our_end small kept
  pub plain_before : plain_end small kept ≡ plain_kept
  pub plain_after : plain_end small (kept ++ halves) ≡ plain_kept

pub halves-leave-nothing : Halves
unfolding model over list kept halves plain_kept
halves-leave-nothing =
    record { both = record { our_answers = refl; plain_answers = refl; alike = refl }; ours = refl; plain_before = refl; plain_after = refl }

-- ---- "going round after N − 1", past held blocks: the last backup takes block 1 from the cursor 2

abbrev pub round : Sizes
round = new_sizes 4 4 6 8

unfoldable pub rounds : List Call
rounds =
    enrol 0 1
    ∷ backup 0 1 (list 0 (A ∷ B ∷ C ∷ []))
    ∷ backup 0 2 (list 1 (D ∷ []))
    ∷ collect 4
    ∷ backup 0 5 (list 3 (E ∷ []))
    ∷ backup 0 6 (list 3 (A ∷ []))
    ∷ collect 8
    ∷ backup 0 9 (list 3 (F ∷ []))
    ∷ []

pub record Rounds : Type 0 where
  pub both : Both round rounds
      (number 0 ∷ backed 1 3 3 ∷ backed 2 1 2 ∷ freed 1 ∷ backed 3 1 1 ∷ backed 4 0 2 ∷ freed 1 ∷ backed 5 1 2 ∷ [])
  pub our_cursor : (book_of (our_end round rounds).book).cursor ≡ 2
  pub plain_cursor : (plain_end round rounds).cursor ≡ 2
  pub taken : (entry_at (book_of (our_end round rounds).book).entries 1).print ≡ print_of F

pub goes-round : Rounds
unfolding model over list rounds
goes-round =
    record { both = record { our_answers = refl; plain_answers = refl; alike = refl }; our_cursor = refl; plain_cursor = refl; taken = refl }

-- ---- "a held one may have a zero fingerprint too": free blocks aren't found by it, a held one is, and its bytes count

pub zero-print-found : Both small
    (enrol 0 9
    ∷ backup 0 1 (over 0 (0 ∷ []) (A ∷ []))
    ∷ backup 0 2 (over 1 (0 ∷ []) (A ∷ []))
    ∷ backup 0 3 (over 2 (0 ∷ []) (B ∷ []))
    ∷ audit
    ∷ [])
    (number 0 ∷ backed 1 1 1 ∷ backed 2 0 1 ∷ number 11 ∷ sound true ∷ [])
unfolding model over
zero-print-found = record { our_answers = refl; plain_answers = refl; alike = refl }

-- ---- "E = 0 is a backup without changes": it takes a slot and moves the day

unfoldable pub idle : List Call
idle = enrol 0 9 ∷ backup 0 1 empty ∷ read 0 1 0 ∷ []

pub record Idle : Type 0 where
  pub both : Both small idle (number 0 ∷ backed 1 0 0 ∷ number 18 ∷ [])
  pub slots : (book_of (our_end small idle).book).slots ≡ record { volume = 0; retire = false; day = 1; first = 0; number = 0 } ∷ []
  pub day : (book_of (our_end small idle).book).day ≡ 1

pub no_change_is_a_backup : Idle
unfolding model empty idle
no_change_is_a_backup = record { both = record { our_answers = refl; plain_answers = refl; alike = refl }; slots = refl; day = refl }

-- ---- "freeing at expiry = day": not on that day, but on the next, and then no more

pub expiry-day-is-kept : Both small
    (enrol 0 3
    ∷ backup 0 1 (list 0 (A ∷ []))
    ∷ backup 0 2 (list 0 (B ∷ []))
    ∷ collect 4
    ∷ read 0 1 0
    ∷ collect 5
    ∷ read 0 1 0
    ∷ collect 5
    ∷ [])
    (number 0 ∷ backed 1 1 1 ∷ backed 2 1 2 ∷ freed 0 ∷ block (block_of A) ∷ freed 1 ∷ number 16 ∷ freed 0 ∷ [])
unfolding model over list
expiry-day-is-kept = record { our_answers = refl; plain_answers = refl; alike = refl }

-- ---- 13: a book in form whose map names a block of count 0; audit says no

unfoldable pub damaged : Ours
damaged = record {
  book = bytes (record {
    sizes = small;
    day = 0;
    cursor = 0;
    retentions = 9 ∷ replicate 7 0;
    entries =
        record { count = 0; held = true; expiry = 0; print = print_of A }
        ∷ record { count = 0; held = false; expiry = 0; print = print_of 0 } ∷ [];
    maps = (0 ∷ unmapped ∷ unmapped ∷ unmapped ∷ []) ∷ replicate 7 (replicate 4 unmapped);
    slots = [];
    records = [];
  });
  pool = block_of A ++ block_of B;
}

unfoldable pub damages : List Call
damages = audit ∷ backup 0 1 (list 0 (B ∷ [])) ∷ []

pub record Damaged : Type 0 where
  pub answers : answers_of (ours spare) damaged damages ≡ sound false ∷ number 13 ∷ []
  pub same : end_of (ours spare) damaged damages ≡ damaged

pub damage_is_13 : Damaged
unfolding model over list damaged damages
damage_is_13 = record { answers = refl; same = refl }

-- ---- 14: "In a damaged book 14 then means a count of 65,535" (document 02, K3); audit says no

-- a cell names block A, and its count is k
unfoldable pub miscounted : ℕ → Ours
miscounted k = record {
  book = bytes (record {
    sizes = small;
    day = 0;
    cursor = 0;
    retentions = 9 ∷ replicate 7 0;
    entries =
        record { count = k; held = true; expiry = 0; print = print_of A }
        ∷ record { count = 1; held = true; expiry = 0; print = print_of B } ∷ [];
    maps = (0 ∷ 1 ∷ unmapped ∷ unmapped ∷ []) ∷ replicate 7 (replicate 4 unmapped);
    slots = [];
    records = [];
  });
  pool = block_of A ++ block_of B;
}

-- another cell, with a before and without one, and behind a change that alone is accepted
unfoldable pub fills : List Call
fills = audit ∷ backup 0 1 (list 1 (A ∷ [])) ∷ backup 0 1 (list 2 (A ∷ [])) ∷ backup 0 1 (list 0 (A ∷ A ∷ [])) ∷ []

-- block A's count after a backup
unfoldable pub count_after : ℕ → List ℕ → ℕ
count_after k l = (entry_at (book_of (ours spare (miscounted k) (backup 0 1 l)).next.book).entries 0).count

pub record Miscounted : Type 0 where
  pub answers : answers_of (ours spare) (miscounted 65535) fills ≡ sound false ∷ number 14 ∷ number 14 ∷ number 14 ∷ []
  pub unchanged : end_of (ours spare) (miscounted 65535) fills ≡ miscounted 65535
  -- the same cell again: lowered before it is raised
  pub again : (ours spare (miscounted 65535) (backup 0 1 (list 0 (A ∷ [])))).answer ≡ backed 1 0 2
  pub stays : count_after 65535 (list 0 (A ∷ [])) ≡ 65535
  -- up to there a count rises
  pub rises : map (λ k. count_after k (list 2 (A ∷ []))) (255 ∷ 511 ∷ 65534 ∷ []) ≡ 256 ∷ 512 ∷ 65535 ∷ []

pub damage_is_14 : Miscounted
unfolding model over list miscounted fills count_after
damage_is_14 = record { answers = refl; unchanged = refl; again = refl; stays = refl; rises = refl }

-- ---- 11: "a block taken earlier in this list has its change's bytes"; equal bytes share it

pub earlier_in_the_list : Both small
    (enrol 0 9 ∷ backup 0 1 (over 0 (A ∷ A ∷ []) (A ∷ F ∷ [])) ∷ backup 0 1 (list 0 (A ∷ A ∷ [])) ∷ [])
    (number 0 ∷ number 11 ∷ backed 1 1 2 ∷ [])
unfolding model over list
earlier_in_the_list = record { our_answers = refl; plain_answers = refl; alike = refl }
