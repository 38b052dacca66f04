-- The chain: what is played on a fresh book answers as the plain store, and a restore by what the volume sent; it shows what the plain
-- store shows, and the box goes on from there as the claims say.
use Rattle.std.specs.Prelude.{ℕ, ◌*◌, ◌≤◌, ◌<◌, ◌≡◌, Bool, true, false, not, List, [], ◌∷◌, ◌++◌, length, drop}
use Rattle.words.specs.Blocks.{block_size}
use Rattle.words.specs.Lists.{all}
use Rattle.words.specs.Outcome.{Outcome, accepted, unless}
use Rattle.words.specs.Sections.{flat}
use Rattle.runs.specs.Changes.{change_count}
use Rattle.book.specs.Book.{Sizes, is_free}
use Rattle.book.specs.Layout.{book_size}
use Rattle.model.specs.Calls.{Call, backup, collect, read, audit, Answer, backed, freed, sound}
use Rattle.claims.specs.Claims.{entry_in, changes_name, says_damage, restored_at}
use Rattle.model.specs.History.{history_of, day_of, history_read, history_restore}
use Rattle.model.specs.OnBytes.{number_of, format_number}
use Rattle.model.specs.Plain.{Plain, start, marked}
use Rattle.model.specs.Pool.{pool_size}
use Rattle.model.specs.Sides.{answers_of, end_of, Ours, ours, plain, ours_shown, plain_shown}
use Rattle.calls.specs.Asked.{Asked, listed, restore, Reply, answer, run, restore_reply}
use Rattle.calls.specs.Answers.{reply_bytes}
use Rattle.calls.specs.Promises.{at, room_of, playable}

-- what the plain store of these sizes answers, and where it stands after the list
abbrev pub plain_answers : Sizes → List Call → List Answer
plain_answers z cs = answers_of plain (start z) cs

abbrev pub plain_after : Sizes → List Call → Plain
plain_after z cs = end_of plain (start z) cs

-- the calls that the plain store is given
abbrev pub listed_of : List Asked → List Call
listed_of [] = []
listed_of (listed c ∷ xs) = c ∷ listed_of xs
listed_of (restore v k first many ∷ xs) = listed_of xs

-- what is owed after the calls cs: to a call the plain store's answer, to a restore the blocks that the volume sent in cs
abbrev pub owed : Sizes → List Call → List Asked → List Reply
owed z cs [] = []
owed z cs (listed c ∷ xs) = answer (plain (plain_after z cs) c).answer ∷ owed z (cs ++ (c ∷ [])) xs
owed z cs (restore v k first many ∷ xs) =
    restore_reply many
    (history_restore z.l (history_of v cs (plain_answers z cs)) (day_of cs (plain_answers z cs)) k first many (many * block_size))
    ∷ owed z cs xs

abbrev pub owed_bytes : Sizes → List Asked → List ℕ
owed_bytes z xs = flat reply_bytes (owed z [] xs)

abbrev pub damage_reply : Reply → Bool
damage_reply (answer a) = says_damage a
damage_reply (run many blocks) = false

-- ---- the list was answered with what is owed, and what is compared after it is the plain store's

pub record AsPlain (z : Sizes) (xs : List Asked) (out b' pool' out' : List ℕ) (w' : ℕ) : Type 0 where
  pub answers : out' ≡ owed_bytes z xs ++ drop (length (owed_bytes z xs)) out
  pub written : w' ≡ length (owed_bytes z xs)
  pub shown : ours_shown (at b' pool') ≡ plain_shown (plain_after z (listed_of xs))
  -- "It gives no 1 to 4 and no 13"; "14 never comes after a list from a fresh book" (document 02, K3)
  pub undamaged : all (λ a. not (damage_reply a)) (owed z [] xs) ≡ true

-- ---- what holds of the next call, whichever it is; o is where the list left book and pool

pub record GoesOn (z : Sizes) (spare : ℕ) (cs : List Call) (o : Ours) : Type 0 where
  pub freeing : (t k p : ℕ) → (ours spare o (collect t)).answer ≡ freed k → p < z.n → (entry_in o p).held ≡ true
      → is_free (entry_in (ours spare o (collect t)).next p) ≡ not (marked (plain_after z cs) t p)
  pub touching : (v t p : ℕ) (list : List ℕ) → p < z.n → changes_name (plain_after z cs) v t list p ≡ false
      → entry_in (ours spare o (backup v t list)).next p ≡ entry_in o p
  pub reads : (v k lbn : ℕ)
      → (ours spare o (read v k lbn)).answer ≡ history_read z.l (history_of v cs (plain_answers z cs)) (day_of cs (plain_answers z cs)) k lbn
  pub restores : (v k first many room : ℕ) → restored_at o v k first many room
      ≡ history_restore z.l (history_of v cs (plain_answers z cs)) (day_of cs (plain_answers z cs)) k first many room
  pub audits : (ours spare o audit).answer ≡ sound true
  pub touches : (v t : ℕ) (list : List ℕ) (k taken touched : ℕ) → (ours spare o (backup v t list)).answer ≡ backed k taken touched
      → touched ≤ 2 * change_count list
  pub collects : (t k : ℕ) → (ours spare o (collect t)).answer ≡ freed k
      → (ours spare (ours spare o (collect t)).next (collect t)).answer ≡ freed 0

-- ---- a format, and then a list

-- 1, then 19 and 20
unfoldable pub fresh_playable : List ℕ → Sizes → List ℕ → ℕ → Outcome (List Asked)
fresh_playable b z calls room = unless (format_number b z) (playable calls room)

-- "one fresh book .. and its pool (any bytes at first) with a spare long enough"; b is the book before the format
pub record PlayedFresh (b pool spare : List ℕ) (z : Sizes) (calls out : List ℕ) (r : ℕ) (b' pool' out' : List ℕ) (w' : ℕ) : Type 0 where
  pub number : r ≡ number_of (fresh_playable b z calls (room_of (length out)))
  pub played : (xs : List Asked) → fresh_playable b z calls (room_of (length out)) ≡ accepted xs → length pool ≡ pool_size z.n
      → book_size z ≤ length spare
      → AsPlain z xs out b' pool' out' w' × GoesOn z (length spare) (listed_of xs) (at b' pool')
