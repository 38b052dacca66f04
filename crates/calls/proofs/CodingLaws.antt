-- Laws of specs/Coding.antt.
-- Calls in bytes: a head of 14 bytes and its data, one after the other to the end (docs/FORMAT.md).
use Prim.Native.Nat.{ℕ, ◌/◌, ◌%◌}
use mathlib.Core.List.{List, [], ◌∷◌, ◌++◌}
use lib.ListN.{length}
use Rattle.words.specs.Numbers.{two}
use Rattle.model.specs.Calls.{enrol, backup, collect, retire, read, audit}
use Rattle.calls.specs.Asked.{Asked, listed, restore}

-- ---- the bytes of a call

abbrev pub row_bytes : ℕ → ℕ → ℕ → ℕ → ℕ → List ℕ → List ℕ
row_bytes kind a b c d list =
    kind ∷ 0 ∷ two a ++ (two b ++ (two c ++ (two d ++ (two (length list % 65536) ++ (two (length list / 65536) ++ list)))))

abbrev pub call_bytes : Asked → List ℕ
call_bytes (listed (enrol v r)) = row_bytes 0 v r 0 0 []
call_bytes (listed (backup v t list)) = row_bytes 1 v t 0 0 list
call_bytes (listed (collect t)) = row_bytes 2 t 0 0 0 []
call_bytes (listed (read v k lbn)) = row_bytes 3 v k lbn 0 []
call_bytes (listed audit) = row_bytes 4 0 0 0 0 []
call_bytes (restore v k first many) = row_bytes 5 v k first many []
call_bytes (listed (retire v t)) = row_bytes 6 v t 0 0 []
