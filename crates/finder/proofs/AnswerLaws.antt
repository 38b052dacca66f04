-- Laws of specs/Answers.antt.
-- What a search of the pool answers, by the place that it finds.
use Prim.Native.Nat.{ℕ}
use mathlib.Core.Path.{◌≡◌, refl, ap}
use mathlib.Core.Option.{Option, none, some}
use Rattle.std.specs.Prelude.{Some, None}
use Rattle.words.specs.declared.PBN.{PBN}
use Rattle.finder.specs.Answers.{found_of}

pub found_some : (o : Option ℕ) (q : PBN) → found_of o ≡ Some q → o ≡ some q.0
found_some none q e = cc
found_some (some p) q e = let z : record { 0 = p } ≡ q = cc in ap (λ (q : PBN). some q.0) z

pub found_none : (o : Option ℕ) → found_of o ≡ None → o ≡ none
found_none none e = refl
found_none (some p) e = cc
