-- Number 8 by its tests.
use Prim.Native.Nat.{ℕ, ◌≤◌}
use mathlib.Core.Path.{◌≡◌, refl, sym, ◌∙◌}
use mathlib.Core.Logic.{◌⊎◌, inl, inr}
use mathlib.Core.Bool.{Bool, true, false, not}
use mathlib.Core.List.{List}
use native.Mathlib.Omega.{arith}
use lib.Dec.{ltb, eqb}
use lib.ListN.{length}
use borrow.Author.Tests.{ltb-false, eqb-true, le-ltb, eq-eqb}
use Rattle.words.specs.Choice.{when◌then◌else◌}
use Rattle.runs.specs.Changes.{pairs, list_size, pairs_fit, list_number}

-- what number 0 says of a list
pub record Accepted (L : ℕ) (b : List ℕ) : Type 0 where
  pub long : 2 ≤ length b
  pub fit : pairs_fit L 0 (pairs b) ≡ true
  pub size : length b ≡ list_size b

-- the number by its three tests
abbrev pub ladder : Bool → Bool → Bool → ℕ
ladder s f n = when s then 8 else when not f then 8 else when not n then 8 else 0

module _ (L : ℕ) (b : List ℕ) where
  pub number_ladder : list_number L b ≡ ladder (ltb (length b) 2) (pairs_fit L 0 (pairs b)) (eqb (length b) (list_size b))
  unfolding list_number
  number_ladder = refl

  pub accepted-number : Accepted L b → list_number L b ≡ 0
  accepted-number a =
      number_ladder ∙ rw (le-ltb (length b) 2 a.long, a.fit, eq-eqb (length b) (list_size b) a.size)

  pub number-either : (list_number L b ≡ 0) ⊎ (list_number L b ≡ 8)
  number-either = rw number_ladder (go (ltb (length b) 2) (pairs_fit L 0 (pairs b)) (eqb (length b) (list_size b)))
    where
      go : (s f n : Bool) → (ladder s f n ≡ 0) ⊎ (ladder s f n ≡ 8)
      go true f n = inr refl
      go false false n = inr refl
      go false true false = inr refl
      go false true true = inl refl

  pub number-accepted : list_number L b ≡ 0 → Accepted L b
  number-accepted e = go (ltb (length b) 2) (pairs_fit L 0 (pairs b)) (eqb (length b) (list_size b)) refl refl refl (sym number_ladder ∙ e)
    where
      go : (s f n : Bool) → ltb (length b) 2 ≡ s → pairs_fit L 0 (pairs b) ≡ f → eqb (length b) (list_size b) ≡ n
          → ladder s f n ≡ 0 → Accepted L b
      go true f n p q r z = absurd (omega arith)
      go false false n p q r z = absurd (omega arith)
      go false true false p q r z = absurd (omega arith)
      go false true true p q r z =
          record { long = ltb-false (length b) 2 p; fit = q; size = eqb-true (length b) (list_size b) r }
