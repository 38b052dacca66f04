-- What stands where after a store.
use Prim.Native.Nat.{ℕ, zero, suc, ◌<◌}
use mathlib.Core.Path.{◌≡◌, refl}
use mathlib.Core.Bool.{Bool, true, false}
use mathlib.Core.List.{List, [], ◌∷◌}
use lib.Dec.{eqb}
use lib.ListN.{length, get_or, set}
use lib.Seq.{get_or-set_same, get_or-set_other}
use borrow.Author.Tests.{eqb-true, eqb-false}
use Rattle.words.specs.Choice.{when◌then◌else◌}

module _ {A : Type 0} where
  pub get_d_set : (l : List A) (i q : ℕ) (y d : A) → i < length l → get_or (set l i y) q d ≡ (when eqb q i then y else get_or l q d)
  get_d_set l i q y d h = go (eqb q i) refl
    where
      go : (t : Bool) → eqb q i ≡ t → get_or (set l i y) q d ≡ (when t then y else get_or l q d)
      go true e = rw (eqb-true q i e) (get_or-set_same l i y d h)
      go false e = get_or-set_other l i q y d (eqb-false q i e)

  -- what the new element keeps, every place keeps
  pub get_or-set-kept : {B : Type 0} (f : A → B) (l : List A) (i : ℕ) (y d : A) → f y ≡ f (get_or l i d)
      → (q : ℕ) → f (get_or (set l i y) q d) ≡ f (get_or l q d)
  get_or-set-kept f [] i y d e q = refl
  get_or-set-kept f (x ∷ l) zero y d e zero = e
  get_or-set-kept f (x ∷ l) zero y d e (suc q) = refl
  get_or-set-kept f (x ∷ l) (suc i) y d e zero = refl
  get_or-set-kept f (x ∷ l) (suc i) y d e (suc q) = get_or-set-kept f l i y d e q
