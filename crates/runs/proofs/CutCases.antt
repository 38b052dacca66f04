-- The pairs of rows of marked blocks, computed by the definitions. A row of 1,024 is in RoomLaws.antt.
use Prim.Native.Nat.{ℕ}
use mathlib.Core.Path.{◌≡◌, refl}
use mathlib.Core.List.{List, [], ◌∷◌, ◌++◌}
use lib.ListN.{replicate}
use Rattle.runs.specs.Changes.{Pair}
use Rattle.runs.specs.Writer.{pieces, marked_pairs}

-- pairs by their numbers: a first, a length, the next first, ..
abbrev pairs_of : List ℕ → List Pair
pairs_of [] = []
pairs_of (n ∷ []) = []
pairs_of (f ∷ n ∷ ns) = record { first = f; many = n } ∷ pairs_of ns

abbrev row : ℕ → List ℕ
row n = replicate n 1

pub record CutRows : Type 0 where
  pub of_63 : marked_pairs (row 63) ≡ pairs_of (0 ∷ 63 ∷ [])
  pub of_64 : marked_pairs (row 64) ≡ pairs_of (0 ∷ 64 ∷ [])
  pub of_65 : marked_pairs (row 65) ≡ pairs_of (0 ∷ 64 ∷ 64 ∷ 1 ∷ [])
  pub of_66 : marked_pairs (row 66) ≡ pairs_of (0 ∷ 64 ∷ 64 ∷ 2 ∷ [])
  pub of_128 : marked_pairs (row 128) ≡ pairs_of (0 ∷ 64 ∷ 64 ∷ 64 ∷ [])
  pub of_129 : marked_pairs (row 129) ≡ pairs_of (0 ∷ 64 ∷ 64 ∷ 64 ∷ 128 ∷ 1 ∷ [])
  pub twice_200 : marked_pairs (row 200 ++ 0 ∷ row 200)
      ≡ pairs_of (0 ∷ 64 ∷ 64 ∷ 64 ∷ 128 ∷ 64 ∷ 192 ∷ 8 ∷ 201 ∷ 64 ∷ 265 ∷ 64 ∷ 329 ∷ 64 ∷ 393 ∷ 8 ∷ [])
  pub at-the-end : marked_pairs (replicate 35 0 ++ row 65) ≡ pairs_of (35 ∷ 64 ∷ 99 ∷ 1 ∷ [])

pub cut-rows : CutRows
unfolding pieces marked_pairs
cut-rows = record {
  of_63 = refl;
  of_64 = refl;
  of_65 = refl;
  of_66 = refl;
  of_128 = refl;
  of_129 = refl;
  twice_200 = refl;
  at-the-end = refl;
}
