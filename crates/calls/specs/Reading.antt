-- A list of calls that is read from an offset on: its calls, and that they are calls to the end. Its laws are in proofs/ReadingLaws.antt.
use Rattle.std.specs.Prelude.{ℕ, ◌+◌, ◌≡◌, List, [], length}
use Rattle.words.specs.Numbers.{num}
use Rattle.words.specs.Outcome.{accepted}
use Rattle.words.specs.Sections.{part}
use Rattle.model.specs.Calls.{backup}
use Rattle.calls.specs.Asked.{Asked, listed}
use Rattle.model.specs.OnBytes.{after}
use Rattle.calls.specs.Coding.{head_size, data_size, calls_from}

module _ (b : List ℕ) where
  -- the calls from an offset on, and that they are calls to the end
  abbrev pub rest_of : ℕ → List Asked
  rest_of at = after (λ xs. xs) (calls_from (length b) b at) []

  abbrev pub Good : ℕ → Type 0
  Good at = calls_from (length b) b at ≡ accepted (rest_of at)

  -- the call at an offset, where it is a backup
  abbrev pub backup_call : ℕ → Asked
  backup_call at = listed (backup (num b (at + 2)) (num b (at + 4)) (part b (at + head_size) (data_size b at)))
