-- Laws of specs/Search.antt.
-- A search over the places of a list, one place at a time.
use Prim.Native.Nat.{ℕ, suc, ◌+◌, ◌-◌, ◌≤◌, ◌<◌}
use mathlib.Core.Path.{◌≡◌, ◌∙◌}
use mathlib.Core.Bool.{Bool, true, false}
use mathlib.Core.List.{List}
use mathlib.Core.Option.{none, some}
use native.Mathlib.Numerals.{add-one}
use native.Mathlib.Omega.{arith}
use lib.ListN.{length, get_or, take, drop, length-drop}
use lib.Seq.{drop-cons, take_all}
use Rattle.words.specs.Choice.{when◌then◌else◌}
use Rattle.words.specs.Lists.{place_from}
use Rattle.placer.specs.Search.{place_in}

module _ {A : Type 0} (f : A → Bool) (xs : List A) where
  module _ (d : A) (i n : ℕ) where
    here : i < n → n ≤ length xs → place_in f xs i n ≡ (when f (get_or xs i d) then some i else place_in f xs (i + 1) n)
    unfolding place_in
    here h k = let e : n - i ≡ suc (n - (i + 1)) = omega arith in rw (e, add-one i, drop-cons xs i d (omega arith))

    pub place-stop : i < n → n ≤ length xs → f (get_or xs i d) ≡ true → place_in f xs i n ≡ some i
    place-stop h k e = here h k ∙ rw e

    pub place-more : i < n → n ≤ length xs → f (get_or xs i d) ≡ false → place_in f xs i n ≡ place_in f xs (i + 1) n
    place-more h k e = here h k ∙ rw e

    pub place_end : n ≤ i → place_in f xs i n ≡ none
    unfolding place_in
    place_end h = let e : n - i ≡ 0 = omega arith in rw e

  -- from a place up, and below a place
  pub place_up : (c : ℕ) → place_in f xs c (length xs) ≡ place_from c f (drop c xs)
  unfolding place_in
  place_up c = rw (take_all (length xs - c) (drop c xs) (simp length-drop (omega arith)))

  pub place-below : (c : ℕ) → place_in f xs 0 c ≡ place_from 0 f (take c xs)
  unfolding place_in
  place-below c = let e : c - 0 ≡ c = omega arith in rw e
