-- The check of a list in one pass: what is left of it, with the longest answers so far, is refused as the whole is.
use Rattle.std.specs.Prelude.{ℕ, ◌+◌, ◌*◌, leb}
use Rattle.words.specs.Choice.{when◌then◌else◌}

-- no answer is longer: a restore's length is a number of two bytes
abbrev pub most_answer : ℕ
most_answer = 3 + 65535 * 512

-- a sum that stops once it passes the room
unfoldable pub added_to : ℕ → ℕ → ℕ → ℕ
added_to room most more = when leb most room then most + more else most
