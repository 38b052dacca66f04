-- What is claimed: of every list of calls on every fresh book (document 01, "The plain store", last two paragraphs), of power cuts, and
-- of what backup's numbers count, backup finds and audit says. Statements only; the proofs are in proofs/claims.
use Rattle.std.specs.Prelude.{ℕ, ◌+◌, ◌-◌, ◌*◌, ◌≤◌, ◌<◌, ◌≡◌, ◌≢◌, Bool, true, false, not, ◌&&◌, ◌||◌, List, [], ◌∷◌, ◌++◌, length, get_or, set, drop, leb, eqb}
use Rattle.words.specs.Blocks.{unmapped}
use Rattle.words.specs.Choice.{when◌then◌else◌}
use Rattle.words.specs.Lists.{all, some_of, count_of, joined}
use Rattle.words.specs.Outcome.{Outcome, accepted}
use Rattle.runs.specs.Changes.{lbns, change_count}
use Rattle.book.specs.Book.{volumes, Sizes, Entry, Rec, Book, entry_at, is_free, cell_at, retention_of}
use Rattle.book.specs.Layout.{book_size, book_of}
use Rattle.model.specs.Pool.{pool_size, block_at}
use Rattle.model.specs.Days
use Rattle.model.specs.Journal.{Backup, journal, backup_count, days}
use Rattle.model.specs.Backup.{Backed}
use Rattle.model.specs.Read.{image}
use Rattle.model.specs.Audit.{applied, replayed, no_maps, until_in}
use Rattle.model.specs.OnBytes.{format_bytes, restore_bytes}
use Rattle.model.specs.Plain.{Plain, start, current_of, marked}
use Rattle.model.specs.Calls.{Call, backup, collect, read, audit, Answer, number, gave, backed, freed, block, sound, is_accepted}
use Rattle.model.specs.Sides.{answers_of, end_of, Ours, ours, plain, ours_shown, plain_shown}
use Rattle.model.specs.History.{history_of, day_of, history_read, history_restore}

-- "one fresh book (as an accepted format of any sizes leaves it) and its pool (any bytes at first) with a spare long enough"
pub record Fresh : Type 0 where
  pub sizes : Sizes
  pub given : List ℕ
  pub book : List ℕ
  pub pool : List ℕ
  pub spare : ℕ
  pub formatted : format_bytes given sizes ≡ accepted book
  pub pool_enough : length pool ≡ pool_size sizes.n
  pub spare_enough : book_size sizes ≤ spare

-- ---- where both sides stand after a list, and what they answered

abbrev pub begin : Fresh → Ours
begin f = record { book = f.book; pool = f.pool }

abbrev pub our_answers : Fresh → List Call → List Answer
our_answers f cs = answers_of (ours f.spare) (begin f) cs

abbrev pub our_end : Fresh → List Call → Ours
our_end f cs = end_of (ours f.spare) (begin f) cs

abbrev pub plain_answers : Fresh → List Call → List Answer
plain_answers f cs = answers_of plain (start f.sizes) cs

abbrev pub plain_end : Fresh → List Call → Plain
plain_end f cs = end_of plain (start f.sizes) cs

-- our answer to a call after a list, and our book's entry p after it
abbrev pub our_answer : Fresh → List Call → Call → Answer
our_answer f cs c = (ours f.spare (our_end f cs) c).answer

abbrev pub entry_in : Ours → ℕ → Entry
entry_in o p = entry_at (book_of o.book).entries p

abbrev pub entry_before : Fresh → List Call → ℕ → Entry
entry_before f cs p = entry_in (our_end f cs) p

abbrev pub entry_after : Fresh → List Call → Call → ℕ → Entry
entry_after f cs c p = entry_in (ours f.spare (our_end f cs) c).next p

-- ---- which blocks a backup's changes name: "an old block, which the cell had in the plain store before the call (none if unmapped), and a
-- new one, which it has there after; a refused backup's name none"

abbrev pub current_cell : Plain → ℕ → ℕ → ℕ
current_cell q v lbn = get_or (current_of q v) lbn unmapped

abbrev pub is_old_or_new : Plain → Plain → ℕ → ℕ → ℕ → Bool
is_old_or_new q after v p lbn = eqb p (current_cell q v lbn) || eqb p (current_cell after v lbn)

unfoldable pub changes_name : Plain → ℕ → ℕ → List ℕ → ℕ → Bool
changes_name q v t list p =
    is_accepted (plain q (backup v t list)).answer && some_of (is_old_or_new q (plain q (backup v t list)).next v p) (lbns list)

-- ---- the claim about a list ("Demand 3 is a single claim about the whole list")

pub record Lists (f : Fresh) (cs : List Call) : Type 0 where
  -- "all answers in order"
  pub answers : our_answers f cs ≡ plain_answers f cs
  -- "after the list, the held blocks with PBN, fingerprint and bytes, and the current maps of all eight volumes"
  pub shown : ours_shown (our_end f cs) ≡ plain_shown (plain_end f cs)
  -- "In an accepted collect, a block held in our book before is free after exactly when no current map and no backup kept at T .. points
  -- to it"
  pub freeing : (before after : List Call) (t k p : ℕ) → cs ≡ before ++ (collect t ∷ after)
      → our_answer f before (collect t) ≡ freed k → p < f.sizes.n → (entry_before f before p).held ≡ true
      → is_free (entry_after f before (collect t) p) ≡ not (marked (plain_end f before) t p)
  -- a backup, accepted or refused, leaves every entry that its changes don't name
  pub touching : (before after : List Call) (v t p : ℕ) (list : List ℕ) → cs ≡ before ++ (backup v t list ∷ after)
      → p < f.sizes.n → changes_name (plain_end f before) v t list p ≡ false
      → entry_after f before (backup v t list) p ≡ entry_before f before p

-- ---- the claim about reads: every answer, bytes or number, is worked out from what the volume sent; and so is a restore's (document 02,
-- K2), which changes nothing and isn't among the calls of a list

-- where the box stands, on an output of `room` bytes
abbrev pub restored_at : Ours → ℕ → ℕ → ℕ → ℕ → ℕ → Outcome (List ℕ)
restored_at o v k first many room = restore_bytes o.book o.pool v k first many room

pub record Images (f : Fresh) (cs : List Call) : Type 0 where
  pub reads : (v k lbn : ℕ)
      → our_answer f cs (read v k lbn) ≡ history_read f.sizes.l (history_of v cs (our_answers f cs)) (day_of cs (our_answers f cs)) k lbn
  pub restores : (v k first many room : ℕ) → restored_at (our_end f cs) v k first many room
      ≡ history_restore f.sizes.l (history_of v cs (our_answers f cs)) (day_of cs (our_answers f cs)) k first many room

-- ---- what follows

-- 1 to 4, 13 and 14: a damaged book, pool or spare
abbrev pub is_damage : ℕ → Bool
is_damage k = some_of (eqb k) (1 ∷ 2 ∷ 3 ∷ 4 ∷ 13 ∷ 14 ∷ [])

abbrev pub says_damage : Answer → Bool
says_damage (number k) = is_damage k
says_damage (gave ns) = false
says_damage (block b) = false
says_damage (sound b) = false

pub record Corollaries (f : Fresh) (cs : List Call) : Type 0 where
  -- audit says yes after any list
  pub audits : our_answer f cs audit ≡ sound true
  -- "It gives no 1 to 4 and no 13"; "14 never comes after a list from a fresh book" (document 02, K3)
  pub undamaged : all (λ a. not (says_damage a)) (our_answers f cs) ≡ true
  -- "so at most 2n"
  pub touches : (v t : ℕ) (list : List ℕ) (k taken touched : ℕ) → our_answer f cs (backup v t list) ≡ backed k taken touched
      → touched ≤ 2 * change_count list
  -- a collect right after a collect on the same day frees nothing
  pub collects : (t k : ℕ) → our_answer f cs (collect t) ≡ freed k → our_answer f (cs ++ (collect t ∷ [])) (collect t) ≡ freed 0

-- ---- the claim about power cuts

-- A host writes the pool blocks that a call took, syncs them, and then replaces the book. Cut off, it has the new book and the new pool, or
-- the old book and a pool in which only blocks were written that this book has free: from there it goes on as if the call had not been.

-- a pool that has the bytes of every block that the book holds, and of the others any
pub record Serves (o : Ours) (pool : List ℕ) : Type 0 where
  pub long : length pool ≡ length o.pool
  pub holds : (p : ℕ) → (entry_in o p).held ≡ true → block_at pool p ≡ block_at o.pool p

-- where a host may be after these calls and any number of cuts; a call that a cut undid isn't among them
pub data Reached (f : Fresh) : List Call → Ours → Type 0 where
  begins : Reached f [] (begin f)
  calls : (cs : List Call) (o : Ours) (c : Call) → Reached f cs o → Reached f (cs ++ (c ∷ [])) (ours f.spare o c).next
  cut : (cs : List Call) (o : Ours) (pool : List ℕ) → Serves o pool → Reached f cs o → Reached f cs (record { book = o.book; pool = pool })

pub record PowerCut (f : Fresh) (cs : List Call) (o : Ours) : Type 0 where
  -- "Only taken blocks' pool bytes change": whatever of the pool after a call was written, the pool still serves the book before it
  pub leaves : (c : Call) → Serves o (ours f.spare o c).next.pool
  -- all goes on as in the plain store that was given these calls
  pub answers : (ds : List Call) → answers_of (ours f.spare) o ds ≡ answers_of plain (plain_end f cs) ds
  -- and a restore gives what the volumes sent in them
  pub restores : (v k first many room : ℕ) → restored_at o v k first many room
      ≡ history_restore f.sizes.l (history_of v cs (plain_answers f cs)) (day_of cs (plain_answers f cs)) k first many room

-- ---- what the numbers in the answer of every accepted backup count, of every book, in form or not (`backup-counted`)

-- how many blocks are held
abbrev pub held_in : List Entry → ℕ
held_in es = count_of (λ (e : Entry). e.held) es

-- a record of a change that had a before
abbrev pub had_before : Rec → Bool
had_before r = not (eqb r.before unmapped)

-- the records that a call added
abbrev pub added_to : Book → Book → List Rec
added_to x y = drop (length x.records) y.records

-- "blocks taken, and touched: n plus the changes that had a before"
pub record Answered (x : Book) (n : ℕ) (d : Backed) : Type 0 where
  pub taken : held_in d.book.entries ≡ held_in x.entries + d.taken
  pub changes : length (added_to x d.book) ≡ n
  pub touched : d.touched ≡ n + count_of had_before (added_to x d.book)

-- ---- what steps 1 and 2 of a change find, for any number of blocks (`held-lowest` and `held_none`, `free-next` and `free-none`)

-- "the lowest-numbered held block with this fingerprint"
pub record IsLowest (es : List Entry) (f : List ℕ) (p : ℕ) : Type 0 where
  pub inside : p < length es
  pub held : (entry_at es p).held ≡ true
  pub print : (entry_at es p).print ≡ f
  pub lowest : (q : ℕ) → q < p → (entry_at es q).held ≡ true → (entry_at es q).print ≡ f → ⊥

-- how many blocks are passed from block c up to q, "going round after N − 1"
unfoldable pub passed : ℕ → ℕ → ℕ → ℕ
passed n c q = when leb c q then q - c else q + (n - c)

-- "the first free block from the cursor up"
pub record IsNext (es : List Entry) (c p : ℕ) : Type 0 where
  pub inside : p < length es
  pub free : (entry_at es p).held ≡ false
  pub first : (q : ℕ) → q < length es → (entry_at es q).held ≡ false → passed (length es) c p ≤ passed (length es) c q

-- ---- what audit's yes says, clause by clause, in facts (document 01, "Audit says yes exactly when"; `audit-means`)

-- "each before being the cell that it replaces"
abbrev pub BeforesIn : List ℕ → List Rec → Type 0
BeforesIn m [] = Unit {0}
BeforesIn m (r ∷ rs) = (get_or m r.lbn unmapped ≡ r.before) × BeforesIn (set m r.lbn r.after) rs

abbrev pub Befores : List (List ℕ) → List Backup → Type 0
Befores ms [] = Unit {0}
Befores ms (b ∷ bs) =
    BeforesIn (get_or ms b.volume []) b.records × Befores (set ms b.volume (applied (get_or ms b.volume []) b.records)) bs

-- a cell that is mapped names a held block
abbrev pub Holds : Book → ℕ → Type 0
Holds x p = p ≢ unmapped → (entry_at x.entries p).held ≡ true

-- held entries of the same fingerprint are one
abbrev pub Differ : List Entry → Type 0
Differ es =
    (p q : ℕ) → p < q → q < length es → (entry_at es p).held ≡ true → (entry_at es q).held ≡ true
    → (entry_at es p).print ≢ (entry_at es q).print

pub record Means (x : Book) : Type 0 where
  -- "the maps are the records replayed in order from all unmapped, each before being the cell that it replaces"
  pub befores : Befores (no_maps x) (journal x)
  pub maps : (v : ℕ) → v < volumes → get_or x.maps v [] ≡ get_or (replayed (no_maps x) (journal x)) v []
  -- "each count is the number of map cells naming the block"
  pub counts : (p : ℕ) → p < x.sizes.n → (entry_at x.entries p).count ≡ count_of (eqb p) (joined x.maps)
  -- "each expiry is the largest slot day plus retention over records with that before, 0 if none"
  pub expiries : (p : ℕ) → p < x.sizes.n → (entry_at x.entries p).expiry ≡ until_in x p (journal x)
  -- "held fingerprints differ"
  pub prints : Differ x.entries
  -- "no current map and no kept backup names a free block"
  pub current : (v l : ℕ) → v < length x.maps → l < length (get_or x.maps v []) → Holds x (cell_at x.maps v l)
  pub kept : (v k l : ℕ) → v < volumes → 1 ≤ k → k ≤ backup_count x v
      → Days.kept (days x v) (retention_of x v) x.day k ≡ true → l < x.sizes.l
      → Holds x (image x v k l)
