-- A volume of four blocks of which 0, 1 and 3 are marked: what the writer writes, and what the reader finds in it.
use Prim.Native.Nat.{ℕ}
use mathlib.Core.Path.{◌≡◌, refl}
use mathlib.Core.Bool.{true}
use mathlib.Core.List.{List, [], ◌∷◌, ◌++◌}
use lib.ListN.{replicate}
use Rattle.runs.specs.Changes.{Change, changes, list_number, pair_count, pair_at, pairs, change_count, lbns, prints_from, blocks_from}
use Rattle.runs.specs.Changes.{list_size, change_at}
use Rattle.runs.specs.Writer.{pieces, marked_pairs, image_change, marked_changes, pair_bytes, list_bytes, marked_list, input_ok, write_number}

marks : List ℕ
marks = 1 ∷ 1 ∷ 0 ∷ 1 ∷ []

-- the letters A to D, one for each block
letters : ℕ → List ℕ
letters n = replicate n 65 ++ replicate n 66 ++ replicate n 67 ++ replicate n 68

-- A, B and D as changes of the blocks 0, 1 and 3
unfoldable three : List Change
three =
    record { lbn = 0; print = replicate 16 65; block = replicate 512 65 }
    ∷ record { lbn = 1; print = replicate 16 66; block = replicate 512 66 }
    ∷ record { lbn = 3; print = replicate 16 68; block = replicate 512 68 }
    ∷ []

-- pairs 0 + 2 and 3 + 1, three fingerprints, three blocks
unfoldable bytes : List ℕ
bytes =
    (2 ∷ 0 ∷ 0 ∷ 0 ∷ 2 ∷ 0 ∷ 3 ∷ 0 ∷ 1 ∷ 0 ∷ [])
    ++ replicate 16 65 ++ replicate 16 66 ++ replicate 16 68
    ++ replicate 512 65 ++ replicate 512 66 ++ replicate 512 68

accepted : input_ok 4 marks (letters 16) (letters 512) ≡ true
unfolding input_ok marks letters
accepted = refl

written : marked_list marks (letters 16) (letters 512) ≡ bytes
unfolding marks letters bytes image_change pieces marked_pairs marked_changes pair_bytes list_bytes marked_list
written = refl

taken : list_number 4 bytes ≡ 0
unfolding bytes list_number pair_count pair_at pairs change_count list_size
taken = refl

found : changes bytes ≡ three
unfolding bytes three pair_count pair_at pairs change_count lbns prints_from blocks_from change_at changes
found = refl

-- 1,594 bytes of room are enough, one less is refused
room : write_number 4 marks (letters 16) (letters 512) (replicate 1594 0) ≡ 0
unfolding marks letters image_change pieces marked_pairs marked_changes pair_bytes list_bytes marked_list input_ok write_number
room = refl

short : write_number 4 marks (letters 16) (letters 512) (replicate 1593 0) ≡ 20
unfolding marks letters image_change pieces marked_pairs marked_changes pair_bytes list_bytes marked_list input_ok write_number
short = refl
