-- Both sides: lists of calls on our book and pool and on the plain store, and what is compared after them.
use Rattle.std.specs.Prelude.{ℕ, Bool, true, List, [], ◌∷◌, take, drop}
use Rattle.words.specs.Blocks.{block_size}
use Rattle.words.specs.Choice.{when◌then◌else◌}
use Rattle.words.specs.Outcome.{Outcome, refused, accepted, and_then}
use Rattle.book.specs.Book.{Entry}
use Rattle.book.specs.Layout.{book_of}
use Rattle.model.specs.OnBytes.{BackedBytes, CollectedBytes, RetiredBytes, enrol_bytes, backup_bytes, collect_bytes, retire_bytes, read_bytes, audit_bytes}
use Rattle.model.specs.Plain
use Rattle.model.specs.Plain.{Block, free, held, Plain, current_maps, PlainCollected}
use Rattle.model.specs.PlainBackup
use Rattle.model.specs.PlainBackup.{PlainBacked}
use Rattle.model.specs.PlainRetire
use Rattle.model.specs.PlainRetire.{PlainRetired}
use Rattle.model.specs.Calls.{Call, enrol, backup, collect, retire, read, audit, Answer, number, gave, block, sound}

-- what a call answers and where it leaves a side
pub record Step (S : Type 0) : Type 0 where
  pub answer : Answer
  pub next : S

-- "all answers in order", and where the list leaves a side
module _ {S : Type 0} (step : S → Call → Step S) where
  abbrev pub answers_of : S → List Call → List Answer
  answers_of s [] = []
  answers_of s (c ∷ cs) = (step s c).answer ∷ answers_of (step s c).next cs

  abbrev pub end_of : S → List Call → S
  end_of s [] = s
  end_of s (c ∷ cs) = end_of (step s c).next cs

-- what an accepted call makes of a side, and the numbers that it answers
pub record Changed (S : Type 0) : Type 0 where
  pub next : S
  pub answers : List ℕ

-- "an enrol's 0": so is an accepted call answered that has no number to answer
abbrev pub answer_of : List ℕ → Answer
answer_of [] = number 0
answer_of (k ∷ ks) = gave (k ∷ ks)

module _ {S : Type 0} where
  abbrev pub became : S → List ℕ → Outcome (Changed S)
  became s answers = accepted (record { next = s; answers = answers })

  -- "A refusal gives its number only", and changes nothing
  unfoldable pub step_of : S → Outcome (Changed S) → Step S
  step_of s (refused k) = record { answer = number k; next = s }
  step_of s (accepted d) = record { answer = answer_of d.answers; next = d.next }

-- the answer of a read and of an audit
unfoldable pub read_answer : Outcome (List ℕ) → Answer
read_answer (refused k) = number k
read_answer (accepted b) = block b

unfoldable pub audit_answer : Outcome Bool → Answer
audit_answer (refused k) = number k
audit_answer (accepted b) = sound b

-- ---- our side

pub record Ours : Type 0 where
  pub book : List ℕ
  pub pool : List ℕ

-- a call on the book alone leaves the pool
abbrev pub with_book : List ℕ → Ours → Ours
with_book b o = record { book = b; pool = o.pool }

abbrev pub enrolled_to : Ours → List ℕ → Outcome (Changed Ours)
enrolled_to o b = became (with_book b o) []

abbrev pub backed_to : BackedBytes → Outcome (Changed Ours)
backed_to d = became (record { book = d.book; pool = d.pool }) (d.number ∷ d.taken ∷ d.touched ∷ [])

abbrev pub collected_to : Ours → CollectedBytes → Outcome (Changed Ours)
collected_to o d = became (with_book d.book o) (d.freed ∷ [])

abbrev pub retired_to : Ours → RetiredBytes → Outcome (Changed Ours)
retired_to o d = became (with_book d.book o) (d.cells ∷ [])

-- spare is the spare's length
unfoldable pub ours : ℕ → Ours → Call → Step Ours
ours spare o (enrol v r) = step_of o (and_then (enrol_bytes o.book v r) (enrolled_to o))
ours spare o (backup v t list) = step_of o (and_then (backup_bytes o.book o.pool spare v t list) backed_to)
ours spare o (collect t) = step_of o (and_then (collect_bytes o.book t) (collected_to o))
ours spare o (retire v t) = step_of o (and_then (retire_bytes o.book spare v t) (retired_to o))
ours spare o (read v k lbn) = record { answer = read_answer (read_bytes o.book o.pool v k lbn); next = o }
ours spare o audit = record { answer = audit_answer (audit_bytes o.book); next = o }

-- ---- the plain store: "A refused call changes nothing in it, and neither does read or audit"; "its audit says yes"

abbrev pub store_enrolled : Plain → Outcome (Changed Plain)
store_enrolled q = became q []

abbrev pub store_backed : PlainBacked → Outcome (Changed Plain)
store_backed d = became d.store (d.number ∷ d.taken ∷ d.touched ∷ [])

abbrev pub store_collected : PlainCollected → Outcome (Changed Plain)
store_collected d = became d.store (d.freed ∷ [])

abbrev pub store_retired : PlainRetired → Outcome (Changed Plain)
store_retired d = became d.store (d.cells ∷ [])

unfoldable pub plain : Plain → Call → Step Plain
plain q (enrol v r) = step_of q (and_then (Plain.enrol q v r) store_enrolled)
plain q (backup v t list) = step_of q (and_then (PlainBackup.backup q v t list) store_backed)
plain q (collect t) = step_of q (and_then (Plain.collect q t) store_collected)
plain q (retire v t) = step_of q (and_then (PlainRetire.retire q v t) store_retired)
plain q (read v k lbn) = record { answer = read_answer (Plain.read q v k lbn); next = q }
plain q audit = record { answer = sound true; next = q }

-- ---- what is compared after the list: "the held blocks with PBN, fingerprint and bytes, and the current maps of all eight volumes"

-- a block's place in the list is its PBN
pub record Shown : Type 0 where
  pub blocks : List Block
  pub maps : List (List ℕ)

abbrev pub blocks_in : List Entry → List ℕ → List Block
blocks_in [] pool = []
blocks_in (e ∷ es) pool = (when e.held then held e.print (take block_size pool) else free) ∷ blocks_in es (drop block_size pool)

-- "ours are those in the book, with the bytes in the pool"
unfoldable pub ours_shown : Ours → Shown
ours_shown o = record { blocks = blocks_in (book_of o.book).entries o.pool; maps = (book_of o.book).maps }

unfoldable pub plain_shown : Plain → Shown
plain_shown q = record { blocks = q.blocks; maps = current_maps q }
