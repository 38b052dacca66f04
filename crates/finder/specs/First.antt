-- The lowest place from a place on where a test holds.
use Rattle.std.specs.Prelude.{ℕ, Bool, List, length, drop}
use Rattle.std.proofs.Math.Option.{Option, none, some}
use Rattle.words.specs.Lists.{place_from}

-- the place found, or d
abbrev pub place_or : ℕ → Option ℕ → ℕ
place_or d none = d
place_or d (some p) = p

module _ {A : Type 0} (f : A → Bool) (xs : List A) where
  -- the lowest place from a on where the test holds, or the length where there is none
  unfoldable pub first_from : ℕ → ℕ
  first_from a = place_or (length xs) (place_from a f (drop a xs))
