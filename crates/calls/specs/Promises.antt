-- What a list of calls in bytes leaves and answers, for all inputs, by the run of `model`.
use Rattle.std.specs.Prelude.{ℕ, ◌≡◌, List, ◌++◌, ltb, leb, length, drop}
use Rattle.words.specs.Choice.{when◌then◌else◌}
use Rattle.words.specs.Outcome.{Outcome, accepted, and_then, unless}
use Rattle.words.specs.Sections.{flat}
use Rattle.model.specs.OnBytes.{number_of, after}
use Rattle.model.specs.Sides.{Ours}
use Rattle.calls.specs.Asked.{Asked, replies_of, left_by}
use Rattle.calls.specs.Coding.{calls_of}
use Rattle.calls.specs.Answers.{reply_bytes, most_of}

abbrev pub at : List ℕ → List ℕ → Ours
at b pool = record { book = b; pool = pool }

-- the answers to a list, in bytes
abbrev pub answered : ℕ → Ours → List Asked → List ℕ
answered spare o xs = flat reply_bytes (replies_of spare o xs)

-- ---- what refuses a list: 19, the bytes are none; 20, the answers are shorter than the longest that these calls can give

-- an answers buffer of n bytes, whose length is told in 32 bits
unfoldable pub room_of : ℕ → ℕ
room_of n = when leb n 4294967295 then n else 4294967295

unfoldable pub room_number : ℕ → ℕ → ℕ
room_number room most = when ltb room most then 20 else 0

unfoldable pub playable : List ℕ → ℕ → Outcome (List Asked)
playable calls room = and_then (calls_of calls) (λ xs. unless (room_number room (most_of xs)) (accepted xs))

-- b and b' are the book before and after the call, r is what it returns; a refusal changes nothing
pub record Played (spare : ℕ) (b pool calls out : List ℕ) (w r : ℕ) (b' pool' out' : List ℕ) (w' : ℕ) : Type 0 where
  pub number : r ≡ number_of (playable calls (room_of (length out)))
  pub end : at b' pool' ≡ after (left_by spare (at b pool)) (playable calls (room_of (length out))) (at b pool)
  pub answers : out'
      ≡ after (λ xs. answered spare (at b pool) xs ++ drop (length (answered spare (at b pool) xs)) out)
      (playable calls (room_of (length out))) out
  pub written : w' ≡ after (λ xs. length (answered spare (at b pool) xs)) (playable calls (room_of (length out))) w
