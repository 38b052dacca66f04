-- Cases a to j of document 01, as document 02 has them since K4, run on our book and pool and on the plain store: one table.
use Prim.Native.Nat.{ℕ}
use mathlib.Core.Path.{◌≡◌, refl}
use mathlib.Core.Bool.{Bool, true, false}
use mathlib.Core.List.{List, [], ◌∷◌, map}
use lib.ListN.{length, get_or, take}
use Rattle.words.specs.Blocks.{unmapped}
use Rattle.words.specs.Choice.{when◌then◌else◌}
use Rattle.book.specs.Book.{Sizes, Entry, Book, no_print}
use Rattle.book.specs.Next.{new_sizes}
use Rattle.book.specs.Layout.{book_of}
use Rattle.book.proofs.AfterD.{after_d}
use Rattle.model.specs.Plain.{Block, free, held, Plain, start, current_maps}
use Rattle.model.specs.Calls.{Call, enrol, backup, collect, read, audit, Answer, number, backed, freed, sound}
use Rattle.model.specs.Sides.{Ours, end_of, ours, plain, ours_shown, plain_shown}
use Rattle.cases.proofs.Open.{model}
use Rattle.cases.proofs.Letters.{A, B, C, D, E, F, block_of, print_of, over, list, four, box}

-- "N=4, L=4, S=6, J=8 (280 bytes)"
abbrev pub sizes : Sizes
sizes = new_sizes 4 4 6 8

-- an entry: whether it is held, count, expiry, fingerprint
pub data Kept : Type 0 where
  ent : Bool → ℕ → ℕ → List ℕ → Kept

-- .. written so in the table: held with count, expiry and letter; free with expiry
abbrev pub hold : ℕ → ℕ → ℕ → Kept
hold c x a = ent true c x (print_of a)

abbrev pub none : ℕ → Kept
none x = ent false 0 x no_print

-- a row: a call, its answer, and after it the cursor, the entries, and the maps of volumes 0 and 1
pub data Row : Type 0 where
  row : Call → Answer → ℕ → List Kept → List (List ℕ) → Row

-- the same of the plain store, which has blocks and no entries
pub data PlainRow : Type 0 where
  plain_row : Call → Answer → ℕ → List Block → List (List ℕ) → PlainRow

unfoldable pub call_of : Row → Call
call_of (row c a k es ms) = c

-- an entry's block has the bytes of its letter
abbrev pub block_in : Kept → Block
block_in (ent h n x f) = when h then held f (block_of (get_or f 0 0)) else free

unfoldable pub plain_of : Row → PlainRow
plain_of (row c a k es ms) = plain_row c a k (map block_in es) ms

unfoldable pub keep : Entry → Kept
keep e = ent e.held e.count e.expiry e.print

unfoldable pub seen : Call → Answer → Book → Row
seen c a x = row c a x.cursor (map keep x.entries) (take 2 x.maps)

unfoldable pub rows : Ours → List Call → List Row
rows o [] = []
rows o (c ∷ cs) = seen c (ours 280 o c).answer (book_of (ours 280 o c).next.book) ∷ rows (ours 280 o c).next cs

unfoldable pub plain_seen : Call → Answer → Plain → PlainRow
plain_seen c a q = plain_row c a q.cursor q.blocks (take 2 (current_maps q))

unfoldable pub plain_rows : Plain → List Call → List PlainRow
plain_rows q [] = []
plain_rows q (c ∷ cs) = plain_seen c (plain q c).answer (plain q c).next ∷ plain_rows (plain q c).next cs

abbrev pub U : ℕ
U = unmapped

unfoldable pub table : List Row
table =
    -- "volume 0 keeps 10 days, volume 1 keeps 3"
    row (enrol 0 10) (number 0)
    0 (four (none 0) (none 0) (none 0) (none 0)) (four U U U U ∷ four U U U U ∷ [])
    ∷ row (enrol 1 3) (number 0)
    0 (four (none 0) (none 0) (none 0) (none 0)) (four U U U U ∷ four U U U U ∷ [])
    -- a
    ∷ row (backup 0 5 (list 0 (A ∷ B ∷ []))) (backed 1 2 2)
    2 (four (hold 1 0 A) (hold 1 0 B) (none 0) (none 0)) (four 0 1 U U ∷ four U U U U ∷ [])
    -- b
    ∷ row (backup 1 6 (list 3 (A ∷ []))) (backed 1 0 1)
    2 (four (hold 2 0 A) (hold 1 0 B) (none 0) (none 0)) (four 0 1 U U ∷ four U U U 0 ∷ [])
    -- c
    ∷ row (backup 0 8 (list 0 (C ∷ []))) (backed 2 1 2)
    3 (four (hold 1 15 A) (hold 1 0 B) (hold 1 0 C) (none 0)) (four 2 1 U U ∷ four U U U 0 ∷ [])
    -- d
    ∷ row (backup 1 9 (list 3 (B ∷ []))) (backed 2 0 2)
    3 (four (hold 0 15 A) (hold 2 0 B) (hold 1 0 C) (none 0)) (four 2 1 U U ∷ four U U U 1 ∷ [])
    -- e: "1 freed and 16"
    ∷ row (collect 18) (freed 1)
    3 (four (none 15) (hold 2 0 B) (hold 1 0 C) (none 0)) (four 2 1 U U ∷ four U U U 1 ∷ [])
    ∷ row (read 0 1 0) (number 16)
    3 (four (none 15) (hold 2 0 B) (hold 1 0 C) (none 0)) (four 2 1 U U ∷ four U U U 1 ∷ [])
    -- f
    ∷ row (read 1 1 3) (number 16)
    3 (four (none 15) (hold 2 0 B) (hold 1 0 C) (none 0)) (four 2 1 U U ∷ four U U U 1 ∷ [])
    -- g: "0 freed"
    ∷ row (collect 19) (freed 0)
    3 (four (none 15) (hold 2 0 B) (hold 1 0 C) (none 0)) (four 2 1 U U ∷ four U U U 1 ∷ [])
    ∷ row (read 0 1 0) (number 16)
    3 (four (none 15) (hold 2 0 B) (hold 1 0 C) (none 0)) (four 2 1 U U ∷ four U U U 1 ∷ [])
    -- h
    ∷ row (backup 0 20 (list 2 (D ∷ E ∷ []))) (backed 3 2 2)
    1 (four (hold 1 15 E) (hold 2 0 B) (hold 1 0 C) (hold 1 0 D)) (four 2 1 3 0 ∷ four U U U 1 ∷ [])
    -- i
    ∷ row (backup 1 21 (list 0 (F ∷ []))) (number 12)
    1 (four (hold 1 15 E) (hold 2 0 B) (hold 1 0 C) (hold 1 0 D)) (four 2 1 3 0 ∷ four U U U 1 ∷ [])
    -- j
    ∷ row (backup 1 21 (over 0 (B ∷ []) (F ∷ []))) (number 11)
    1 (four (hold 1 15 E) (hold 2 0 B) (hold 1 0 C) (hold 1 0 D)) (four 2 1 3 0 ∷ four U U U 1 ∷ [])
    ∷ row audit (sound true)
    1 (four (hold 1 15 E) (hold 2 0 B) (hold 1 0 C) (hold 1 0 D)) (four 2 1 3 0 ∷ four U U U 1 ∷ [])
    ∷ []

unfoldable pub calls : List Call
calls = map call_of table

-- ours and the plain store make the table, end with the same blocks and maps, and the book after d is those bytes
pub record Cases : Type 0 where
  pub our_table : rows (box sizes) calls ≡ table
  pub plain_table : plain_rows (start sizes) calls ≡ map plain_of table
  pub alike : ours_shown (end_of (ours 280) (box sizes) calls) ≡ plain_shown (end_of plain (start sizes) calls)
  pub book_after_d : (end_of (ours 280) (box sizes) (take 6 calls)).book ≡ after_d
  pub book_size : length after_d ≡ 280

pub cases : Cases
unfolding model over list call_of plain_of keep seen rows plain_seen plain_rows table calls after_d
cases = record { our_table = refl; plain_table = refl; alike = refl; book_after_d = refl; book_size = refl }
