-- Laws of `all`, a test of every element.
use mathlib.Core.Path.{◌≡◌, refl}
use mathlib.Core.Bool.{Bool, true, false, not, ◌&&◌, ◌||◌}
use mathlib.Core.List.{List, [], ◌∷◌}
use Rattle.words.proofs.ChoiceLaws.{and-swap}
use Rattle.words.specs.Lists.{all, some_of}

module _ {A : Type 0} where
  pub all_same : (f g : A → Bool) (xs : List A) → ((x : A) → f x ≡ g x) → all f xs ≡ all g xs
  all_same f g [] h = refl
  all_same f g (x ∷ xs) h = rw (h x, all_same f g xs h)

  pub all-and : (f g : A → Bool) (xs : List A) → all (λ x. f x && g x) xs ≡ (all f xs && all g xs)
  all-and f g [] = refl
  all-and f g (x ∷ xs) = rw (all-and f g xs) (and-swap (f x) (g x) (all f xs) (all g xs))

  pub all_not : (f : A → Bool) (xs : List A) → all (λ x. not (f x)) xs ≡ not (some_of f xs)
  all_not f [] = refl
  all_not f (x ∷ xs) = rw (all_not f xs) (go (f x) (some_of f xs))
    where
      go : (a b : Bool) → (not a && not b) ≡ not (a || b)
      go true b = refl
      go false b = refl
