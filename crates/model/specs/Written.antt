-- What a call that writes an output leaves, for all inputs.
use Rattle.std.specs.Prelude.{ℕ, ◌≡◌, List}
use Rattle.words.specs.Outcome.{Outcome}
use Rattle.model.specs.OnBytes.{number_of}
use Rattle.model.specs.Views.{output_after}

-- r is what the call returns, out and out' are the output before and after it
pub record Written (o : Outcome (List ℕ)) (out : List ℕ) (r : ℕ) (out' : List ℕ) : Type 0 where
  pub number : r ≡ number_of o
  pub output : out' ≡ output_after o out
