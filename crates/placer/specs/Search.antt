-- A search over the places of a list, one place at a time.
use Rattle.std.specs.Prelude.{ℕ, ◌-◌, Bool, List, take, drop}
use Rattle.std.proofs.Math.Option.{Option}
use Rattle.words.specs.Lists.{place_from}

module _ {A : Type 0} (f : A → Bool) (xs : List A) where
  -- the first place from i up to n, which is not among them, where the test holds
  unfoldable pub place_in : ℕ → ℕ → Option ℕ
  place_in i n = place_from i f (take (n - i) (drop i xs))
