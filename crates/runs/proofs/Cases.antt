-- Number 8 and the LBNs of small lists, computed by the definitions.
use Prim.Native.Nat.{ℕ, ◌*◌}
use mathlib.Core.Path.{◌≡◌, refl}
use mathlib.Core.List.{List, [], ◌∷◌, ◌++◌}
use lib.ListN.{replicate, take}
use Rattle.words.specs.Lists.{up_from}
use Rattle.words.specs.Numbers.{two}
use Rattle.words.specs.Sections.{flat}
use Rattle.runs.specs.Changes.{pair_count, pair_at, pairs, change_count, lbns, list_size, list_number}

-- the u16s of a list, and n changes of zeros
abbrev list_of : List ℕ → ℕ → List ℕ
list_of ws n = flat two ws ++ replicate (n * 528) 0

-- "under 2 bytes, a length is 0, a pair passes L or starts before the last one's end, or the byte count differs"; "a length above 64"
pub record RefusedLists : Type 0 where
  pub no_bytes : list_number 8 [] ≡ 8
  pub one_byte : list_number 8 (0 ∷ []) ≡ 8
  pub a_length_0 : list_number 8 (list_of (1 ∷ 5 ∷ 0 ∷ []) 0) ≡ 8
  pub a_length_65 : list_number 100 (list_of (1 ∷ 0 ∷ 65 ∷ []) 65) ≡ 8
  pub passes-l : list_number 8 (list_of (1 ∷ 7 ∷ 2 ∷ []) 2) ≡ 8
  pub starts-before : list_number 8 (list_of (2 ∷ 2 ∷ 2 ∷ 3 ∷ 1 ∷ []) 3) ≡ 8
  pub a_byte_short : list_number 8 (take 533 (list_of (1 ∷ 5 ∷ 1 ∷ []) 1)) ≡ 8
  pub a_byte_long : list_number 8 (list_of (1 ∷ 5 ∷ 1 ∷ []) 1 ++ 0 ∷ []) ≡ 8

pub refused : RefusedLists
unfolding list_number pairs pair_at pair_count list_size change_count
refused = record {
  no_bytes = refl;
  one_byte = refl;
  a_length_0 = refl;
  a_length_65 = refl;
  passes-l = refl;
  starts-before = refl;
  a_byte_short = refl;
  a_byte_long = refl;
}

-- "E = 0 is a backup without changes"; "pairs may touch"; a pair may end at L, and have 64 blocks
pub record TakenLists : Type 0 where
  pub no_pairs : list_number 0 (list_of (0 ∷ []) 0) ≡ 0
  pub ends-at-l : list_number 8 (list_of (1 ∷ 7 ∷ 1 ∷ []) 1) ≡ 0
  pub a_length_64 : list_number 100 (list_of (1 ∷ 0 ∷ 64 ∷ []) 64) ≡ 0
  pub touching : list_number 8 (list_of (2 ∷ 2 ∷ 2 ∷ 4 ∷ 1 ∷ []) 3) ≡ 0
  pub touching-lbns : lbns (list_of (2 ∷ 2 ∷ 2 ∷ 4 ∷ 1 ∷ []) 3) ≡ 2 ∷ 3 ∷ 4 ∷ []
  pub pieces : list_number 65 (list_of (2 ∷ 0 ∷ 64 ∷ 64 ∷ 1 ∷ []) 65) ≡ 0
  pub pieces-lbns : lbns (list_of (2 ∷ 0 ∷ 64 ∷ 64 ∷ 1 ∷ []) 65) ≡ up_from 0 65

pub taken : TakenLists
unfolding list_number pairs pair_at pair_count list_size change_count lbns
taken = record {
  no_pairs = refl;
  ends-at-l = refl;
  a_length_64 = refl;
  touching = refl;
  touching-lbns = refl;
  pieces = refl;
  pieces-lbns = refl;
}
