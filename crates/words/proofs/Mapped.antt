-- Tests of lists that were mapped or stored into, and of the last element.
use Prim.Native.Nat.{ℕ, zero, suc, ◌≤◌}
use mathlib.Core.Path.{◌≡◌, refl, ap}
use mathlib.Core.Bool.{Bool, true, ◌&&◌}
use mathlib.Core.List.{List, [], ◌∷◌, map}
use lib.Dec.{leb}
use lib.ListN.{get_or, set}
use borrow.Author.Tests.{leb-true}
use Rattle.words.proofs.ChoiceLaws.{and_true}
use Rattle.words.specs.Lists.{all, last_of}

pub all_map : {A B : Type 0} (f : B → Bool) (g : A → B) (xs : List A) → all f (map g xs) ≡ all (λ x. f (g x)) xs
all_map f g [] = refl
all_map f g (x ∷ xs) = ap (λ (t : Bool). f (g x) && t) (all_map f g xs)

-- what stands at a place, whether it was stored there or not
pub get_or-set-test : {A : Type 0} (f : A → Bool) (xs : List A) (i : ℕ) (a d : A) (q : ℕ) → f a ≡ true → f (get_or xs q d) ≡ true
    → f (get_or (set xs i a) q d) ≡ true
get_or-set-test f [] i a d q h k = k
get_or-set-test f (x ∷ xs) zero a d zero h k = h
get_or-set-test f (x ∷ xs) zero a d (suc q) h k = k
get_or-set-test f (x ∷ xs) (suc i) a d zero h k = k
get_or-set-test f (x ∷ xs) (suc i) a d (suc q) h k = get_or-set-test f xs i a d q h k

-- the last of numbers that are all d or more
pub last-above : (d e : ℕ) (ds : List ℕ) → d ≤ e → all (leb d) ds ≡ true → d ≤ last_of e ds
last-above d e [] h k = h
last-above d e (x ∷ ds) h k =
    let w = and_true (leb d x) (all (leb d) ds) k in
    last-above d x ds (leb-true d x w.0) w.1
