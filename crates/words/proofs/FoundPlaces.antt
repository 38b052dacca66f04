-- What it says that a first place was found, or none.
use Prim.Native.Nat.{ℕ, zero, suc, ◌+◌, ◌<◌}
use mathlib.Core.Path.{◌≡◌, refl, sym}
use mathlib.Core.Bool.{Bool, true, false}
use mathlib.Core.List.{List, [], ◌∷◌}
use mathlib.Core.Option.{none, some}
use native.Mathlib.Omega.{arith}
use lib.ListN.{length, get_or}
use Rattle.words.proofs.Options.{none_not, some_same}
use Rattle.words.specs.Choice.{when◌then◌else◌}
use Rattle.words.specs.Lists.{place_from}

module _ {A : Type 0} (f : A → Bool) (d : A) where
  -- p is the place of an element that passes, where the list's own first place is i
  pub record PlaceFound (i : ℕ) (xs : List A) (p : ℕ) : Type 0 where
    pub index : ℕ
    pub place : p ≡ i + index
    pub inside : index < length xs
    pub passes : f (get_or xs index d) ≡ true

  pub place_found : (i : ℕ) (xs : List A) (p : ℕ) → place_from i f xs ≡ some p → PlaceFound i xs p
  place_found i [] p e = absurd (none_not p e)
  place_found i (x ∷ xs) p e = go (f x) refl e (place_found (suc i) xs p)
    where
      go : (t : Bool) → f x ≡ t → (when t then some i else place_from (suc i) f xs) ≡ some p
          → (place_from (suc i) f xs ≡ some p → PlaceFound (suc i) xs p)
          → PlaceFound i (x ∷ xs) p
      go true h e' next = let q = some_same i p e' in record { index = 0; place = omega arith; inside = omega arith; passes = h }
      go false h e' next =
          let r = next e' in
          record { index = suc r.index; place = omega arith; inside = omega arith; passes = r.passes }

  -- no element before the place that was found passes
  pub place-first : (i : ℕ) (xs : List A) (p : ℕ) → place_from i f xs ≡ some p → (j : ℕ) → i + j < p → f (get_or xs j d) ≡ false
  place-first i [] p e j h = absurd (none_not p e)
  place-first i (x ∷ xs) p e j h = go (f x) refl e (place-first (suc i) xs p) j h
    where
      go : (t : Bool) → f x ≡ t → (when t then some i else place_from (suc i) f xs) ≡ some p
          → (place_from (suc i) f xs ≡ some p → (j : ℕ) → suc i + j < p → f (get_or xs j d) ≡ false)
          → (j : ℕ) → i + j < p → f (get_or (x ∷ xs) j d) ≡ false
      go true k e' next j h = let q = some_same i p e' in absurd (omega arith)
      go false k e' next zero h = k
      go false k e' next (suc j) h = next e' j (omega arith)

  -- where none was found, none passes
  pub place_none : (i : ℕ) (xs : List A) → place_from i f xs ≡ none → (j : ℕ) → j < length xs → f (get_or xs j d) ≡ false
  place_none i [] e j h = absurd (omega arith)
  place_none i (x ∷ xs) e j h = go (f x) refl e (place_none (suc i) xs) j h
    where
      go : (t : Bool) → f x ≡ t → (when t then some i else place_from (suc i) f xs) ≡ none
          → (place_from (suc i) f xs ≡ none → (j : ℕ) → j < length xs → f (get_or xs j d) ≡ false)
          → (j : ℕ) → j < suc (length xs) → f (get_or (x ∷ xs) j d) ≡ false
      go true k e' next j h = absurd (none_not i (sym e'))
      go false k e' next zero h = k
      go false k e' next (suc j) h = next e' j (omega arith)
