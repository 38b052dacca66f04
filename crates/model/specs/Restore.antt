-- Restore (document 02, K2), from number 5 on: a run of a backup's blocks in one call.
use Rattle.std.specs.Prelude.{ℕ, zero, suc, ◌+◌, ◌*◌, ◌||◌, List, [], ◌++◌, ltb}
use Rattle.words.specs.Blocks.{block_size}
use Rattle.words.specs.Choice.{when◌then◌else◌}
use Rattle.words.specs.Outcome.{Outcome, accepted, and_then, unless}
use Rattle.book.specs.Book.{Book}
use Rattle.model.specs.Kept.{kept_number}
use Rattle.model.specs.Read.{read}

-- 21: "first plus length is above L, or the output is too short", where the output has `room` bytes
unfoldable pub run_number : ℕ → ℕ → ℕ → ℕ → ℕ
run_number l first many room = when ltb l (first + many) || ltb room (many * block_size) then 21 else 0

-- "what the reads one by one give, in order"; where one is refused, "the first such number". `one` reads an LBN
abbrev pub reads_from : (ℕ → Outcome (List ℕ)) → ℕ → ℕ → Outcome (List ℕ)
reads_from one first zero = accepted []
reads_from one first (suc many) =
    and_then (one first) (λ block. and_then (reads_from one (suc first) many) (λ rest. accepted (block ++ rest)))

-- "21 comes before 18", and after 16: so also where nothing is read, "all checks but 18 still apply"
unfoldable pub restore : Book → List ℕ → ℕ → ℕ → ℕ → ℕ → ℕ → Outcome (List ℕ)
restore x pool v k first many room =
    unless (kept_number x v k)
    (unless (run_number x.sizes.l first many room)
    (reads_from (read x pool v k) first many))
