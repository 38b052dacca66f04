-- What the check answers, by number 8.
use Prim.Native.Nat.{ℕ}
use mathlib.Core.Path.{◌≡◌, refl, sym, ap, ◌∙◌}
use mathlib.Core.Bool.{Bool, true, false}
use mathlib.Core.List.{List}
use lib.Dec.{ltb, eqb}
use lib.ListN.{length}
use borrow.Author.Tests.{eqb-true, eq-eqb, ne_eqb}
use Rattle.std.proofs.Common.{Option, Some, None}
use Rattle.words.specs.Choice.{when◌then◌else◌}
use Rattle.runs.specs.Changes.{pair_count, pairs, change_count, list_size, pairs_fit, list_number}
use Rattle.runs.proofs.Number.{Accepted, ladder, number_ladder, accepted-number, number-accepted}
use Rattle.pairs.specs.Answers.{shape_of, checked_of}
use Rattle.pairs.specs.declared.Shape.{Shape}

-- document 01's number for each case of the answer
abbrev pub checked_number : Option Shape → ℕ
checked_number (Some s) = 0
checked_number None = 8

module _ (L : ℕ) (b : List ℕ) where
  -- the check's answer
  abbrev answer : Bool → Option Shape
  answer t = when t then Some (shape_of b) else None

  pub accepted-good : (e n : ℕ) → Accepted L b → e ≡ pair_count b → n ≡ change_count b
      → checked_of L b ≡ Some (record { pairs = e; changes = n })
  unfolding checked_of shape_of
  accepted-good e n a p q =
      rw (p, q) (ap answer (eq-eqb (list_number L b) 0 (accepted-number L b a)))

  pub unaccepted_refused : (Accepted L b → ⊥) → checked_of L b ≡ None
  unfolding checked_of
  unaccepted_refused h = ap answer (ne_eqb (list_number L b) 0 (λ e. h (number-accepted L b e)))

  pub good-accepted : (s : Shape) → checked_of L b ≡ Some s → Accepted L b × (s ≡ shape_of b)
  unfolding checked_of
  good-accepted s e =
      let g = go (eqb (list_number L b) 0) e in
      (number-accepted L b (eqb-true (list_number L b) 0 g.0), g.1)
    where
      go : (t : Bool) → answer t ≡ Some s → (t ≡ true) × (s ≡ shape_of b)
      go true q = (refl, cc)
      go false q = (cc, cc)

  pub number-of-checked : checked_number (checked_of L b) ≡ list_number L b
  unfolding checked_of
  number-of-checked =
      ap (λ (n : ℕ). checked_number (answer (eqb n 0))) (number_ladder L b)
      ∙ go (ltb (length b) 2) (pairs_fit L 0 (pairs b)) (eqb (length b) (list_size b))
      ∙ sym (number_ladder L b)
    where
      go : (s f n : Bool) → checked_number (answer (eqb (ladder s f n) 0)) ≡ ladder s f n
      go true f n = refl
      go false false n = refl
      go false true false = refl
      go false true true = refl
