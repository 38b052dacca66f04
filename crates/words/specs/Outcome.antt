-- A call's outcome: the number of a refusal, or what it gives.
use Rattle.std.specs.Prelude.{ℕ, zero, suc}

pub data Outcome (A : Type 0) : Type 0 where
  refused : ℕ → Outcome A
  accepted : A → Outcome A

module _ {A B : Type 0} where
  abbrev pub and_then : Outcome A → (A → Outcome B) → Outcome B
  and_then (refused k) f = refused k
  and_then (accepted a) f = f a

-- a number of 0 refuses nothing
abbrev pub unless : {A : Type 0} → ℕ → Outcome A → Outcome A
unless zero o = o
unless (suc k) o = refused (suc k)
