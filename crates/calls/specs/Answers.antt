-- Answers in bytes: a tag, then numbers or blocks; the longest answer that a call can have.
use Rattle.std.specs.Prelude.{ℕ, ◌+◌, ◌*◌, List, ◌∷◌, ◌++◌, map, eqb, length}
use Rattle.words.specs.Blocks.{block_size}
use Rattle.words.specs.Choice.{when◌then◌else◌}
use Rattle.words.specs.Lists.{sum}
use Rattle.words.specs.Numbers.{two}
use Rattle.words.specs.Sections.{flat}
use Rattle.model.specs.Calls.{Call, enrol, backup, collect, retire, read, audit, Answer, number, gave, block, sound}
use Rattle.calls.specs.Asked.{Asked, listed, restore, Reply, answer, run}

-- three numbers are a backup's, and any other call answers one
abbrev pub gave_tag : ℕ → ℕ
gave_tag many = when eqb many 3 then 1 else 2

-- "tag byte 0 number, 1 backed, 2 one number (a collect's freed, a retire's cells), 3 block, 4 sound, then the numbers as u16 or the 512
-- bytes"
abbrev pub answer_bytes : Answer → List ℕ
answer_bytes (number k) = 0 ∷ two k
answer_bytes (gave ns) = gave_tag (length ns) ∷ flat two ns
answer_bytes (block b) = 3 ∷ b
answer_bytes (sound t) = 4 ∷ two (when t then 1 else 0)

-- "5 run, then how many blocks as u16 and these"
abbrev pub reply_bytes : Reply → List ℕ
reply_bytes (answer a) = answer_bytes a
reply_bytes (run many blocks) = 5 ∷ two many ++ blocks

-- ---- "the longest that these calls can give": 3 for enrol, collect, retire and audit, 7 for a backup, 513 for a read, and for a restore
-- 3 and its blocks

abbrev pub longest : Call → ℕ
longest (enrol v r) = 3
longest (backup v t list) = 7
longest (collect t) = 3
longest (retire v t) = 3
longest (read v k lbn) = 1 + block_size
longest audit = 3

abbrev pub longest_reply : Asked → ℕ
longest_reply (listed c) = longest c
longest_reply (restore v k first many) = 3 + many * block_size

abbrev pub most_of : List Asked → ℕ
most_of xs = sum (map longest_reply xs)

-- the same by the kind in the call's head, and its last argument
unfoldable pub longest_of : ℕ → ℕ → ℕ
longest_of kind d =
    when eqb kind 1 then 7 else
    when eqb kind 3 then 1 + block_size else
    when eqb kind 5 then 3 + d * block_size else
    3
