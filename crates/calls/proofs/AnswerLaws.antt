-- Laws of specs/Answers.antt.
-- Answers in bytes, read back: by the tag, numbers or blocks.
use Prim.Native.Nat.{ℕ, zero, suc, ◌+◌, ◌*◌}
use mathlib.Core.Bool.{Bool, true, ◌||◌}
use mathlib.Core.List.{List, [], ◌∷◌}
use lib.Dec.{eqb}
use lib.ListN.{length, get_or, drop}
use Rattle.words.specs.Blocks.{block_size}
use Rattle.words.specs.Choice.{when◌then◌else◌}
use Rattle.words.specs.Numbers.{num}
use Rattle.words.specs.Sections.{part}
use Rattle.model.specs.Calls.{Answer, number, gave, backed, freed, block, sound}
use Rattle.calls.specs.Asked.{Reply, answer, run}

abbrev pub answer_in : List ℕ → Answer
answer_in b =
    when eqb (get_or b 0 0) 0 then number (num b 1) else
    when eqb (get_or b 0 0) 1 then backed (num b 1) (num b 3) (num b 5) else
    when eqb (get_or b 0 0) 2 then freed (num b 1) else
    when eqb (get_or b 0 0) 3 then block (part b 1 block_size) else
    sound (eqb (num b 1) 1)

abbrev pub answer_size : List ℕ → ℕ
answer_size b = when eqb (get_or b 0 0) 1 then 7 else when eqb (get_or b 0 0) 3 then 1 + block_size else 3

-- the same of a restore's too
abbrev pub reply_in : List ℕ → Reply
reply_in b = when eqb (get_or b 0 0) 5 then run (num b 1) (part b 3 (num b 1 * block_size)) else answer (answer_in b)

abbrev pub reply_size : List ℕ → ℕ
reply_size b = when eqb (get_or b 0 0) 5 then 3 + num b 1 * block_size else answer_size b

-- the first n of them; a list of n calls has n
abbrev pub replies_in : ℕ → List ℕ → List Reply
replies_in zero b = []
replies_in (suc n) b = reply_in b ∷ replies_in n (drop (reply_size b) b)

-- blocks that are an answer are whole, and numbers come one or three at a time
abbrev pub is_whole : Answer → Bool
is_whole (number k) = true
is_whole (gave ns) = eqb (length ns) 1 || eqb (length ns) 3
is_whole (block b) = eqb (length b) block_size
is_whole (sound t) = true

abbrev pub whole_reply : Reply → Bool
whole_reply (answer a) = is_whole a
whole_reply (run many blocks) = eqb (length blocks) (many * block_size)
