-- Backup (document 01, "The calls"), from number 5 on: the numbers, the steps of a change, and what it leaves.
use Rattle.std.specs.Prelude.{ℕ, suc, ◌+◌, ◌-◌, ◌%◌, max, false, not, ◌&&◌, ◌||◌, List, [], ◌∷◌, length, take, drop, set, leb, ltb, eqb}
use Rattle.std.proofs.Math.Option.{Option, none, some}
use Rattle.words.specs.Blocks.{unmapped}
use Rattle.words.specs.Choice.{when◌then◌else◌}
use Rattle.words.specs.Lists.{place_from, or_else, same, last_of}
use Rattle.words.specs.Outcome.{Outcome, refused, accepted, and_then, unless}
use Rattle.runs.specs.Changes.{Change, changes, change_count, list_number}
use Rattle.book.specs.Book.{Entry, Book, entry_at, is_free, cell_at, retention_of}
use Rattle.book.specs.Next.{with_day, with_cursor, with_entries, with_entry, with_cell, with_record, with_slot, count_as, expiry_as, held_as}
use Rattle.model.specs.Days.{bad_day, not_after}
use Rattle.model.specs.Journal.{days, backup_count, no_living}
use Rattle.model.specs.Pool.{block_at, with_block}

-- numbers 5 to 10
unfoldable pub backup_number : Book → ℕ → ℕ → List ℕ → ℕ
backup_number x v t list =
    when no_living x v then 5 else
    when bad_day x.day t || not_after (days x v) t then 7 else
    when not (eqb (list_number x.sizes.l list) 0) then 8 else
    when leb x.sizes.s (length x.slots) then 9 else
    when ltb x.sizes.j (length x.records + change_count list) then 10 else
    0

-- ---- the changes

-- where a backup stands between two changes
pub record Work : Type 0 where
  pub book : Book
  pub pool : List ℕ
  pub taken : ℕ
  pub touched : ℕ

-- a block found or taken, and where the backup stands then
pub record Placed : Type 0 where
  pub pbn : ℕ
  pub work : Work

-- step 1: "the lowest-numbered held block with this fingerprint"
unfoldable pub find_held : List Entry → List ℕ → Option ℕ
find_held es f = place_from 0 (λ e. e.held && same e.print f) es

-- step 2: "the first free block from the cursor up, going round after N − 1"
unfoldable pub find_free : List Entry → ℕ → Option ℕ
find_free es c = or_else (place_from c is_free (drop c es)) (place_from 0 is_free (take c es))

-- "cursor becomes that number + 1 modulo N. It becomes held with the fingerprint, and its pool bytes are the change's"
unfoldable pub take_block : Change → ℕ → Work → Work
take_block c p w = record {
  book = with_cursor (suc p % w.book.sizes.n) (with_entry (held_as c.print) p w.book);
  pool = with_block w.pool p c.block;
  taken = suc w.taken;
  touched = w.touched;
}

-- steps 1 and 2; 11: "the found block has other bytes", 12: "step 2 finds no free block"
unfoldable pub place_free : Change → Work → Option ℕ → Outcome Placed
place_free c w none = refused 12
place_free c w (some p) = accepted (record { pbn = p; work = take_block c p w })

unfoldable pub place_held : Change → Work → Option ℕ → Outcome Placed
place_held c w none = place_free c w (find_free w.book.entries w.book.cursor)
place_held c w (some p) = when same (block_at w.pool p) c.block then accepted (record { pbn = p; work = w }) else refused 11

unfoldable pub place : Change → Work → Outcome Placed
place c w = place_held c w (find_held w.book.entries c.print)

-- step 3: "If the map had a before, its count falls by 1 and its expiry becomes the larger of itself and T + R", with "the day of the volume's
-- previous backup in place of T" (document 02, K4)
unfoldable pub lowered : ℕ → Entry → Entry
lowered until e = expiry_as (max e.expiry until) (count_as (e.count - 1) e)

unfoldable pub lower : ℕ → ℕ → List Entry → List Entry
lower until before es = when eqb before unmapped then es else set es before (lowered until (entry_at es before))

-- step 4: "The found block's count rises by 1, the map names it, a record is added"
unfoldable pub raised : Entry → Entry
raised e = count_as (suc e.count) e

unfoldable pub name_block : ℕ → ℕ → ℕ → List Entry → Book → Book
name_block v lbn p es x =
    with_record (record { lbn = lbn; before = cell_at x.maps v lbn; after = p })
    (with_cell v lbn p (with_entries (set es p (raised (entry_at es p))) x))

-- 13: "before's count is 0"; 14, of "the found block's count after step 3": "In a damaged book 14 then means a count of 65,535"
-- (document 02, K3)
unfoldable pub move_number : ℕ → ℕ → ℕ → List Entry → ℕ
move_number until before p es =
    when not (eqb before unmapped) && eqb (entry_at es before).count 0 then 13 else
    when eqb (entry_at (lower until before es) p).count 65535 then 14 else
    0

-- steps 3 and 4; touched is "n plus the changes that had a before"
unfoldable pub moved : ℕ → ℕ → ℕ → ℕ → Placed → Work
moved v until lbn before d = record {
  book = name_block v lbn d.pbn (lower until before d.work.book.entries) d.work.book;
  pool = d.work.pool;
  taken = d.work.taken;
  touched = d.work.touched + (when eqb before unmapped then 1 else 2);
}

unfoldable pub move_to : ℕ → ℕ → ℕ → ℕ → Placed → Outcome Work
move_to v until lbn before d = unless (move_number until before d.pbn d.work.book.entries) (accepted (moved v until lbn before d))

unfoldable pub change_step : ℕ → ℕ → Change → Work → Outcome Work
change_step v until c w = and_then (place c w) (move_to v until c.lbn (cell_at w.book.maps v c.lbn))

-- "for each change in order"
abbrev pub run_changes : ℕ → ℕ → List Change → Work → Outcome Work
run_changes v until [] w = accepted w
run_changes v until (c ∷ cs) w = and_then (change_step v until c w) (λ w'. run_changes v until cs w')

-- ---- the whole call

pub record Backed : Type 0 where
  pub book : Book
  pub pool : List ℕ
  pub number : ℕ
  pub taken : ℕ
  pub touched : ℕ

unfoldable pub begun : Book → List ℕ → Work
begun x pool = record { book = x; pool = pool; taken = 0; touched = 0 }

-- "Then a slot is added and day becomes T. The answer is the backup's number, blocks taken, and touched"
unfoldable pub closed : Book → ℕ → ℕ → ℕ → Work → Backed
closed x v t n w = record {
  book = with_day t (with_slot (record { volume = v; retire = false; day = t; first = length x.records; number = n }) w.book);
  pool = w.pool;
  number = suc (backup_count x v);
  taken = w.taken;
  touched = w.touched;
}

-- until when the volume's next backup keeps what it replaces: 0 stands for the day "where a damaged book has none"
abbrev pub until_next : Book → ℕ → ℕ
until_next x v = last_of 0 (days x v) + retention_of x v

unfoldable pub backup : Book → List ℕ → ℕ → ℕ → List ℕ → Outcome Backed
backup x pool v t list =
    unless (backup_number x v t list)
    (and_then (run_changes v (until_next x v) (changes list) (begun x pool))
    (λ w. accepted (closed x v t (change_count list) w)))
