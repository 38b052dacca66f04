-- Fingerprints compared, worked out. Here, and not with the laws, so that a wrong definition is refused by what it gives.
use Prim.Native.Nat.{ℕ}
use mathlib.Core.Path.{◌≡◌, refl}
use mathlib.Core.List.{List, [], ◌∷◌, map}
use lib.ListN.{set}
use Rattle.words.specs.Lists.{up_from}
use Rattle.finder.specs.FarEnd.{agreeing}

-- bytes 0 to 15
abbrev plain : List ℕ
plain = up_from 0 16

-- the same with another byte at each of these places
abbrev changed_at : List ℕ → List ℕ
changed_at [] = plain
changed_at (i ∷ is) = set (changed_at is) i 255

pub record Compared : Type 0 where
  pub equal : agreeing plain plain ≡ 16
  -- one byte differs, by its place
  pub one : map (λ i. agreeing plain (set plain i 255)) (0 ∷ 1 ∷ 7 ∷ 8 ∷ 14 ∷ 15 ∷ []) ≡ 15 ∷ 14 ∷ 8 ∷ 7 ∷ 1 ∷ 0 ∷ []
  -- two do, and the farther one counts
  pub two : map (λ i. agreeing (set plain i 255) (set plain 3 255)) (1 ∷ 9 ∷ 15 ∷ []) ≡ 12 ∷ 6 ∷ 0 ∷ []
  -- alike in the first 14 bytes only; in the last 14 only
  pub salted : agreeing (changed_at (14 ∷ 15 ∷ [])) plain ≡ 0
  pub ended : agreeing (changed_at (0 ∷ 1 ∷ [])) plain ≡ 14

pub compared : Compared
unfolding agreeing
compared = record { equal = refl; one = refl; two = refl; salted = refl; ended = refl }
