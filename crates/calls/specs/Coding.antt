-- Calls in bytes: a head of 14 bytes and its data, one after the other to the end (docs/FORMAT.md).
use Rattle.std.specs.Prelude.{ℕ, zero, suc, ◌+◌, ◌*◌, Bool, false, ◌&&◌, List, [], ◌∷◌, leb, eqb, length, get_or}
use Rattle.words.specs.Choice.{when◌then◌else◌}
use Rattle.words.specs.Numbers.{num}
use Rattle.words.specs.Outcome.{Outcome, refused, accepted, and_then}
use Rattle.words.specs.Sections.{part}
use Rattle.model.specs.Calls.{enrol, backup, collect, retire, read, audit}
use Rattle.calls.specs.Asked.{Asked, listed, restore}

-- ---- a head: "kind u8, a zero byte, four u16 arguments a b c d, u32 length of the data"

abbrev pub head_size : ℕ
head_size = 14

-- how many bytes of data the call at an offset has; how many it has with its head
unfoldable pub data_size : List ℕ → ℕ → ℕ
data_size b at = num b (at + 10) + num b (at + 12) * 65536

unfoldable pub call_size : List ℕ → ℕ → ℕ
call_size b at = head_size + data_size b at

-- "What a kind doesn't use is zero, and only a backup has data"; an unknown kind is no call
unfoldable pub unused_zero : ℕ → ℕ → ℕ → ℕ → ℕ → ℕ → Bool
unused_zero kind a b c d size =
    when eqb kind 0 then eqb c 0 && eqb d 0 && eqb size 0 else
    when eqb kind 1 then eqb c 0 && eqb d 0 else
    when eqb kind 2 then eqb b 0 && eqb c 0 && eqb d 0 && eqb size 0 else
    when eqb kind 3 then eqb d 0 && eqb size 0 else
    when eqb kind 4 then eqb a 0 && eqb b 0 && eqb c 0 && eqb d 0 && eqb size 0 else
    when eqb kind 5 then eqb size 0 else
    when eqb kind 6 then eqb c 0 && eqb d 0 && eqb size 0 else
    false

-- "0 enrol (a volume, b retention), 1 backup (a volume, b day; the data is the change list), 2 collect (a day), 3 read (a volume, b number,
-- c LBN), 4 audit, 5 restore (a volume, b number, c first LBN, d length), 6 retire (a volume, b day)"
unfoldable pub call_of : ℕ → ℕ → ℕ → ℕ → ℕ → List ℕ → Asked
call_of kind a b c d list =
    when eqb kind 0 then listed (enrol a b) else
    when eqb kind 1 then listed (backup a b list) else
    when eqb kind 2 then listed (collect a) else
    when eqb kind 3 then listed (read a b c) else
    when eqb kind 5 then restore a b c d else
    when eqb kind 6 then listed (retire a b) else
    listed audit

-- ---- the call at an offset

unfoldable pub unused_zero_at : List ℕ → ℕ → Bool
unused_zero_at b at = unused_zero (get_or b at 0) (num b (at + 2)) (num b (at + 4)) (num b (at + 6)) (num b (at + 8)) (data_size b at)

-- neither head nor data end early, and what isn't used is zero
unfoldable pub is_call : List ℕ → ℕ → Bool
is_call b at = leb (at + head_size) (length b) && eqb (get_or b (at + 1) 0) 0 && unused_zero_at b at && leb (at + call_size b at) (length b)

unfoldable pub call_at : List ℕ → ℕ → Asked
call_at b at =
    call_of (get_or b at 0) (num b (at + 2)) (num b (at + 4)) (num b (at + 6)) (num b (at + 8)) (part b (at + head_size) (data_size b at))

-- ---- a list of calls; 19: the bytes are none

abbrev pub before : Asked → List Asked → Outcome (List Asked)
before a xs = accepted (a ∷ xs)

-- the calls from an offset to the end, n at most
abbrev pub calls_from : ℕ → List ℕ → ℕ → Outcome (List Asked)
calls_from zero b at = when leb (length b) at then accepted [] else refused 19
calls_from (suc n) b at =
    when leb (length b) at then accepted [] else
    when is_call b at then and_then (calls_from n b (at + call_size b at)) (before (call_at b at)) else
    refused 19

-- no list has more calls than bytes
unfoldable pub calls_of : List ℕ → Outcome (List Asked)
calls_of b = calls_from (length b) b 0
