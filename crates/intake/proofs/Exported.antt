-- What C is promised of an accepted backup says all that callers in Rattle are promised: the number is 0, and the outputs are the answers.
use Prim.Native.Nat.{ℕ}
use mathlib.Core.Path.{◌≡◌, refl, ◌∙◌}
use mathlib.Core.List.{List}
use Rattle.std.specs.Prelude.{Ok}
use Rattle.words.specs.Lent.{Lent}
use Rattle.words.specs.Outcome.{accepted}
use Rattle.model.specs.OnBytes.{BackedBytes}
use Rattle.intake.specs.Promises.{outcome, BacksUp, BackedUp}

module _ (b pool spare : Lent (List ℕ)) (v t : ℕ) (list : Lent (List ℕ)) (n m k : Lent ℕ) (r : ℕ) where
  pub accepted-told : (d : BackedBytes) → outcome b pool spare v t list ≡ accepted d → BackedUp b pool spare v t list n m k r
      → (r ≡ 0) × BacksUp b pool spare v t list (Ok (record { number = n.exit.now; taken = m.exit.now; touched = k.exit.now }))
  accepted-told d e w =
      (w.refusal ∙ rw e refl, record { book = w.book; stored = w.stored; answer = rw (w.number, w.taken, w.touched, e) refl })
