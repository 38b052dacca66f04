-- The calls on bytes, with numbers 1 to 4 (document 01, "Numbers of refusal, in checking order"), and what stands after them.
use Rattle.std.specs.Prelude.{ℕ, ◌*◌, Bool, not, ◌&&◌, List, [], length, ltb, eqb}
use Rattle.words.specs.Blocks.{block_size}
use Rattle.words.specs.Choice.{when◌then◌else◌}
use Rattle.words.specs.Outcome.{Outcome, refused, accepted, and_then, unless}
use Rattle.book.specs.Book.{Sizes}
use Rattle.book.specs.Layout.{book_size, bytes, book_of, sizes_of}
use Rattle.book.specs.Form.{sizes_ok, form_number}
use Rattle.book.specs.Next.{fresh}
use Rattle.model.specs.Pool.{pool_size}
use Rattle.model.specs.Enrol.{enrol}
use Rattle.model.specs.Backup.{Backed, backup}
use Rattle.model.specs.Retire.{Retired, retire}
use Rattle.model.specs.Collect.{Collected, collect}
use Rattle.model.specs.Read.{image, read}
use Rattle.model.specs.Restore.{restore}
use Rattle.model.specs.Audit.{audit}

-- ---- what stands after a call: "A refusal gives its number only; nothing but the spare may change"

module _ {A : Type 0} where
  -- 0 for an accepted call
  abbrev pub number_of : Outcome A → ℕ
  number_of (refused k) = k
  number_of (accepted a) = 0

  -- what an accepted call makes of a buffer or an answer, from what stood there
  abbrev pub after : {B : Type 0} → (A → B) → Outcome A → B → B
  after f (refused k) b = b
  after f (accepted a) b = f a

-- ---- numbers 3 and 4

-- "The pool isn't 512N bytes"
unfoldable pub pool_number : List ℕ → List ℕ → ℕ
pool_number b pool = when not (eqb (length pool) (pool_size (sizes_of b).n)) then 3 else 0

-- "The spare is shorter than the book"; only its length counts
unfoldable pub spare_number : List ℕ → ℕ → ℕ
spare_number b spare = when ltb spare (length b) then 4 else 0

-- ---- format: "all zero but layout and sizes, maps unmapped"; 1: "for format, its length and the sizes given"

unfoldable pub format_number : List ℕ → Sizes → ℕ
format_number b z = when not (sizes_ok z && eqb (length b) (book_size z)) then 1 else 0

unfoldable pub format_bytes : List ℕ → Sizes → Outcome (List ℕ)
format_bytes b z = unless (format_number b z) (accepted (bytes (fresh z)))

-- ---- enrol

unfoldable pub enrol_bytes : List ℕ → ℕ → ℕ → Outcome (List ℕ)
enrol_bytes b v r = unless (form_number b) (and_then (enrol (book_of b) v r) (λ x. accepted (bytes x)))

-- the book after a format or an enrol
abbrev pub book_after : Outcome (List ℕ) → List ℕ → List ℕ
book_after o b = after (λ a. a) o b

-- ---- backup

pub record BackedBytes : Type 0 where
  pub book : List ℕ
  pub pool : List ℕ
  pub number : ℕ
  pub taken : ℕ
  pub touched : ℕ

unfoldable pub backed_bytes : Backed → BackedBytes
backed_bytes d = record { book = bytes d.book; pool = d.pool; number = d.number; taken = d.taken; touched = d.touched }

-- book, pool, length of the spare, volume, day, change list
unfoldable pub backup_bytes : List ℕ → List ℕ → ℕ → ℕ → ℕ → List ℕ → Outcome BackedBytes
backup_bytes b pool spare v t list =
    unless (form_number b)
    (unless (pool_number b pool)
    (unless (spare_number b spare)
    (and_then (backup (book_of b) pool v t list) (λ d. accepted (backed_bytes d)))))

-- ---- retire (document 02, K6): "retiring takes book and spare"

pub record RetiredBytes : Type 0 where
  pub book : List ℕ
  pub cells : ℕ

unfoldable pub retired_bytes : Retired → RetiredBytes
retired_bytes d = record { book = bytes d.book; cells = d.cells }

-- book, length of the spare, volume, day
unfoldable pub retire_bytes : List ℕ → ℕ → ℕ → ℕ → Outcome RetiredBytes
retire_bytes b spare v t =
    unless (form_number b)
    (unless (spare_number b spare)
    (and_then (retire (book_of b) v t) (λ d. accepted (retired_bytes d))))

-- ---- collect

pub record CollectedBytes : Type 0 where
  pub book : List ℕ
  pub freed : ℕ

unfoldable pub collected_bytes : Collected → CollectedBytes
collected_bytes d = record { book = bytes d.book; freed = d.freed }

unfoldable pub collect_bytes : List ℕ → ℕ → Outcome CollectedBytes
collect_bytes b t = unless (form_number b) (and_then (collect (book_of b) t) (λ d. accepted (collected_bytes d)))

-- ---- read

unfoldable pub read_bytes : List ℕ → List ℕ → ℕ → ℕ → ℕ → Outcome (List ℕ)
read_bytes b pool v k lbn = unless (form_number b) (unless (pool_number b pool) (read (book_of b) pool v k lbn))

-- "a twin call with the same arguments and checks gives the number, or 0"
unfoldable pub read_number_bytes : List ℕ → List ℕ → ℕ → ℕ → ℕ → ℕ
read_number_bytes b pool v k lbn = number_of (read_bytes b pool v k lbn)

-- "On a refusal that part is empty"
abbrev pub block_after : Outcome (List ℕ) → List ℕ
block_after o = after (λ a. a) o []

-- where the block starts in the pool
unfoldable pub read_place_bytes : List ℕ → List ℕ → ℕ → ℕ → ℕ → Outcome ℕ
read_place_bytes b pool v k lbn = unless (read_number_bytes b pool v k lbn) (accepted (image (book_of b) v k lbn * block_size))

-- ---- restore (document 02, K2)

-- book, pool, volume, number, first LBN, length, length of the output
unfoldable pub restore_bytes : List ℕ → List ℕ → ℕ → ℕ → ℕ → ℕ → ℕ → Outcome (List ℕ)
restore_bytes b pool v k first many room =
    unless (form_number b) (unless (pool_number b pool) (restore (book_of b) pool v k first many room))

-- ---- audit

unfoldable pub audit_bytes : List ℕ → Outcome Bool
audit_bytes b = unless (form_number b) (accepted (audit (book_of b)))

-- yes is 1, no is 0
abbrev pub sound_after : Outcome Bool → ℕ → ℕ
sound_after o k = after (λ s. when s then 1 else 0) o k
