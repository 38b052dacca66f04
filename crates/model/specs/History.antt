-- What a read and a restore owe, worked out from what the volume sent and from days alone: no block number, no other volume, no pool.
use Rattle.std.specs.Prelude.{ℕ, ◌+◌, ◌*◌, Bool, true, false, not, ◌&&◌, ◌||◌, List, [], ◌∷◌, ◌++◌, map, length, take, leb, ltb, eqb}
use Rattle.std.proofs.Math.Option.{Option, none, some}
use Rattle.words.specs.Blocks.{block_size}
use Rattle.words.specs.Choice.{when◌then◌else◌}
use Rattle.words.specs.Lists.{some_of, or_else, joined, up_from}
use Rattle.words.specs.Outcome.{Outcome, accepted, unless}
use Rattle.words.specs.Sections.{flat}
use Rattle.runs.specs.Changes.{Change, changes}
use Rattle.model.specs.Days.{kept}
use Rattle.model.specs.Calls.{Call, enrol, backup, collect, retire, read, audit, Answer, is_accepted}
use Rattle.model.specs.Sides.{read_answer}

-- an accepted backup as it was sent
pub record Sent : Type 0 where
  pub day : ℕ
  pub changes : List Change

-- a volume's accepted enrol, its accepted backups, and the days on which it was retired, of which there is one at most; retention 0 means that
-- there was no enrol
pub record History : Type 0 where
  pub retention : ℕ
  pub sent : List Sent
  pub left : List ℕ

unfoldable pub no_history : History
no_history = record { retention = 0; sent = []; left = [] }

-- ---- from calls and their answers

unfoldable pub with_enrol : ℕ → History → History
with_enrol r h = record { retention = r; sent = h.sent; left = h.left }

unfoldable pub with_sent : Sent → History → History
with_sent s h = record { retention = h.retention; sent = h.sent ++ (s ∷ []); left = h.left }

unfoldable pub with_left : ℕ → History → History
with_left t h = record { retention = h.retention; sent = h.sent; left = h.left ++ (t ∷ []) }

abbrev pub noted : ℕ → History → Call → Answer → History
noted v h (enrol u r) a = when eqb u v && is_accepted a then with_enrol r h else h
noted v h (backup u t list) a = when eqb u v && is_accepted a then with_sent (record { day = t; changes = changes list }) h else h
noted v h (collect t) a = h
noted v h (retire u t) a = when eqb u v && is_accepted a then with_left t h else h
noted v h (read u k lbn) a = h
noted v h audit a = h

abbrev pub history_from : ℕ → History → List Call → List Answer → History
history_from v h [] answers = h
history_from v h (c ∷ cs) [] = h
history_from v h (c ∷ cs) (a ∷ answers) = history_from v (noted v h c a) cs answers

-- of volume v
unfoldable pub history_of : ℕ → List Call → List Answer → History
history_of v cs answers = history_from v no_history cs answers

-- the header's day: the T of the last accepted backup, collect or retire
abbrev pub day_noted : ℕ → Call → Answer → ℕ
day_noted d (enrol u r) a = d
day_noted d (backup u t list) a = when is_accepted a then t else d
day_noted d (collect t) a = when is_accepted a then t else d
day_noted d (retire u t) a = when is_accepted a then t else d
day_noted d (read u k lbn) a = d
day_noted d audit a = d

abbrev pub day_from : ℕ → List Call → List Answer → ℕ
day_from d [] answers = d
day_from d (c ∷ cs) [] = d
day_from d (c ∷ cs) (a ∷ answers) = day_from (day_noted d c a) cs answers

unfoldable pub day_of : List Call → List Answer → ℕ
day_of cs answers = day_from 0 cs answers

-- ---- the read

-- the days of its backups, and behind them its retirement's: "the newest is no longer exempt" then (document 02, K6)
abbrev pub days_noted : History → List ℕ
days_noted h = map (λ (s : Sent). s.day) h.sent ++ h.left

-- the block of the last change at that LBN
abbrev pub last_block : ℕ → List Change → Option (List ℕ)
last_block lbn [] = none
last_block lbn (c ∷ cs) = or_else (last_block lbn cs) (when eqb c.lbn lbn then some c.block else none)

-- .. in backups 1 to k
unfoldable pub sent_block : History → ℕ → ℕ → Option (List ℕ)
sent_block h k lbn = last_block lbn (joined (map (λ (s : Sent). s.changes) (take k h.sent)))

abbrev pub is_none : Option (List ℕ) → Bool
is_none none = true
is_none (some b) = false

abbrev pub block_or : List ℕ → Option (List ℕ) → List ℕ
block_or d none = d
block_or d (some b) = b

-- 5, 15, 16, 17, 18, where a volume has l blocks and the header's day is d
unfoldable pub history_number : ℕ → History → ℕ → ℕ → ℕ → ℕ
history_number l h d k lbn =
    when eqb h.retention 0 then 5 else
    when eqb k 0 || ltb (length h.sent) k then 15 else
    when not (kept (days_noted h) h.retention d k) then 16 else
    when leb l lbn then 17 else
    when is_none (sent_block h k lbn) then 18 else
    0

unfoldable pub history_read : ℕ → History → ℕ → ℕ → ℕ → Answer
history_read l h d k lbn = read_answer (unless (history_number l h d k lbn) (accepted (block_or [] (sent_block h k lbn))))

-- ---- the restore (document 02, K2), of `many` blocks from LBN `first` on into an output of `room` bytes

-- 5, 15, 16, 21, and 18 where one of them was never sent
unfoldable pub history_run_number : ℕ → History → ℕ → ℕ → ℕ → ℕ → ℕ → ℕ
history_run_number l h d k first many room =
    when eqb h.retention 0 then 5 else
    when eqb k 0 || ltb (length h.sent) k then 15 else
    when not (kept (days_noted h) h.retention d k) then 16 else
    when ltb l (first + many) || ltb room (many * block_size) then 21 else
    when some_of (λ lbn. is_none (sent_block h k lbn)) (up_from first many) then 18 else
    0

unfoldable pub history_restore : ℕ → History → ℕ → ℕ → ℕ → ℕ → ℕ → Outcome (List ℕ)
history_restore l h d k first many room =
    unless (history_run_number l h d k first many room) (accepted (flat (λ lbn. block_or [] (sent_block h k lbn)) (up_from first many)))
