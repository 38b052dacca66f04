-- Numbers 1 to 10 of a backup, as the code checks them, and what it knows when none refuses.
use Rattle.std.specs.Prelude.{ℕ, suc, ◌+◌, ◌≤◌, ◌<◌, ◌≡◌, Bool, ◌||◌, List, leb, ltb, length, Result, Ok, Err}
use Rattle.words.specs.Choice.{when◌then◌else◌}
use Rattle.words.specs.Lent.{Lent}
use Rattle.words.specs.Outcome.{Outcome, refused, accepted, and_then}
use Rattle.runs.specs.Changes.{change_count, changes}
use Rattle.book.specs.Book.{volumes, Book}
use Rattle.book.specs.Layout.{book_of}
use Rattle.book.specs.FormFacts.{FormFacts}
use Rattle.model.specs.Days.{bad_day, not_after}
use Rattle.model.specs.Journal.{days, backup_count, no_living}
use Rattle.model.specs.Backup.{Work, until_next, run_changes, begun, closed}
use Rattle.model.specs.OnBytes.{spare_number, BackedBytes, backed_bytes, backup_bytes}
use Rattle.buffers.specs.Buffers.{or_number, buffers_number}
use Rattle.placer.specs.Working.{Job}
use Rattle.permit.specs.declared.allowing.NextSlot.{NextSlot}
use Rattle.permit.specs.declared.allowing.Plan.{Plan}
use Rattle.words.specs.Refusals.{number}
use Rattle.words.specs.declared.refusals.Refusal.{Refusal}

-- numbers 1 to 4
unfoldable pub lent_number : List ℕ → List ℕ → ℕ → ℕ
lent_number b pool spare = or_number (buffers_number b pool) (spare_number b spare)

-- number 7
unfoldable pub day_refused : Book → ℕ → ℕ → Bool
day_refused x v t = bad_day x.day t || not_after (days x v) t

abbrev pub day_number : Book → ℕ → ℕ → ℕ
day_number x v t = when day_refused x v t then 7 else 0

-- numbers 5 and 7
unfoldable pub volume_number : Book → ℕ → ℕ → ℕ
volume_number x v t = when no_living x v then 5 else day_number x v t

-- the slot that a volume gets next, when neither refuses it
pub record NextIs (x : Book) (v t : ℕ) (slot : NextSlot) : Type 0 where
  pub allowed : volume_number x v t ≡ 0
  pub volume : v < volumes
  pub until : slot.until ≡ until_next x v
  pub number : slot.number ≡ suc (backup_count x v)

unfoldable pub NextBy : Book → (v t : ℕ) → Result NextSlot Refusal → Type 0
NextBy x v t (Ok slot) = NextIs x v t slot
NextBy x v t (Err e) = number e ≡ volume_number x v t

-- numbers 9 and 10, for n changes
unfoldable pub room_number : Book → ℕ → ℕ
room_number x n =
    when leb x.sizes.s (length x.slots) then 9 else when ltb x.sizes.j (length x.records + n) then 10 else 0

-- what a backup comes to when none of numbers 1 to 10 refuses it
abbrev pub goes_on : Book → List ℕ → ℕ → ℕ → List ℕ → Outcome BackedBytes
goes_on x pool v t list =
    and_then (run_changes v (until_next x v) (changes list) (begun x pool))
    (λ (w : Work). accepted (backed_bytes (closed x v t (change_count list) w)))

-- what the call knows then
pub record Ready (b pool : List ℕ) (spare v t : ℕ) (list : List ℕ) (plan : Plan) : Type 0 where
  pub formed : FormFacts b
  pub spared : length b ≤ spare
  pub volume : v < volumes
  pub last : t ≤ 60000
  pub same : plan.list.bytes.now ≡ list
  pub job : Job (book_of b) pool plan.list
  pub room : length (book_of b).slots < (book_of b).sizes.s
  pub until : plan.until ≡ until_next (book_of b) v
  pub number : plan.number ≡ suc (backup_count (book_of b) v)
  pub goes : backup_bytes b pool spare v t list ≡ goes_on (book_of b) pool v t list

unfoldable pub AllowedBy : (book pool : Lent (List ℕ)) → (spare v t : ℕ) → Lent (List ℕ) → Result Plan Refusal → Type 0
AllowedBy book pool spare v t list (Ok plan) =
    Ready book.entry.now pool.entry.now spare v t list.entry.now plan
AllowedBy book pool spare v t list (Err e) =
    backup_bytes book.entry.now pool.entry.now spare v t list.entry.now ≡ refused (number e)
