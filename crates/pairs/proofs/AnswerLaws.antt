-- Laws of specs/Answers.antt: what a caller knows of a list that the check takes or refuses.
use Prim.Native.Nat.{ℕ}
use mathlib.Core.Path.{◌≡◌, sym, ap, ◌∙◌}
use mathlib.Core.List.{List}
use Rattle.std.proofs.Common.{Some, None}
use Rattle.runs.specs.Changes.{list_number}
use Rattle.pairs.specs.Answers.{shape_of, checked_of}
use Rattle.pairs.proofs.Checks.{checked_number, good-accepted, number-of-checked}
use Rattle.pairs.specs.declared.Shape.{Shape}

module _ (L : ℕ) (b : List ℕ) where
  pub good-number : (s : Shape) → checked_of L b ≡ Some s → list_number L b ≡ 0
  good-number s e = sym (number-of-checked L b) ∙ ap checked_number e

  pub refused-number : checked_of L b ≡ None → list_number L b ≡ 8
  refused-number e = sym (number-of-checked L b) ∙ ap checked_number e

  pub good-shape : (s : Shape) → checked_of L b ≡ Some s → s ≡ shape_of b
  good-shape s e = (good-accepted L b s e).1
