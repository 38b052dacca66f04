-- What a list in bytes asks for: the calls that document 01's lists hold, and restores (document 02, K2). A restore changes nothing, and
-- the plain store isn't given it.
use Rattle.std.specs.Prelude.{ℕ, ◌*◌, List, [], ◌∷◌}
use Rattle.words.specs.Blocks.{block_size}
use Rattle.words.specs.Outcome.{Outcome, refused, accepted}
use Rattle.model.specs.Calls.{Call, Answer, number}
use Rattle.claims.specs.Claims.{restored_at}
use Rattle.model.specs.Sides.{Ours, ours}

pub data Asked : Type 0 where
  listed : Call → Asked
  restore : ℕ → ℕ → ℕ → ℕ → Asked  -- volume, number, first LBN, length

pub data Reply : Type 0 where
  answer : Answer → Reply
  run : ℕ → List ℕ → Reply  -- how many blocks, and they

unfoldable pub restore_reply : ℕ → Outcome (List ℕ) → Reply
restore_reply many (refused k) = answer (number k)
restore_reply many (accepted blocks) = run many blocks

-- ---- one call: what it is answered, and where it leaves book and pool; the output of a restore has the room that its run takes

unfoldable pub reply_to : ℕ → Ours → Asked → Reply
reply_to spare o (listed c) = answer (ours spare o c).answer
reply_to spare o (restore v k first many) = restore_reply many (restored_at o v k first many (many * block_size))

unfoldable pub next_after : ℕ → Ours → Asked → Ours
next_after spare o (listed c) = (ours spare o c).next
next_after spare o (restore v k first many) = o

-- ---- a list of them

abbrev pub replies_of : ℕ → Ours → List Asked → List Reply
replies_of spare o [] = []
replies_of spare o (a ∷ xs) = reply_to spare o a ∷ replies_of spare (next_after spare o a) xs

abbrev pub left_by : ℕ → Ours → List Asked → Ours
left_by spare o [] = o
left_by spare o (a ∷ xs) = left_by spare (next_after spare o a) xs
