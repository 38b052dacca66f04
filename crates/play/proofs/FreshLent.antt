-- A list on a fresh book, as it is promised of what a caller lends: the length goes there, and a refusal leaves it as it was.
use Prim.Native.Nat.{ℕ}
use mathlib.Core.Path.{◌≡◌}
use mathlib.Core.List.{List}
use Rattle.std.specs.Prelude.{Result}
use Rattle.words.specs.Lent.{Lent}
use Rattle.words.specs.Refusals.{refusal_number}
use Rattle.words.specs.declared.refusals.Refusal.{Refusal}
use Rattle.book.specs.Book.{Sizes}
use Rattle.calls.specs.Lending.{PlayedFreshLent}
use Rattle.play.specs.Promises.{PlaysFresh, length_after}

module _ (book pool spare : Lent (List ℕ)) (z : Sizes) (calls out : Lent (List ℕ)) (written : Lent ℕ) where
  pub fresh-lent : (r : Result ℕ Refusal) → PlaysFresh book pool spare z calls out r → written.exit.now ≡ length_after written.entry.now r
      → PlayedFreshLent book pool spare z calls out written (refusal_number r)
  fresh-lent r p e = rw e (p.fresh written.entry.now)
