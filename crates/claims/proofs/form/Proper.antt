-- Outcomes that are not refused by 0, the number of an accepted call.
use Prim.Native.Nat.{ℕ, zero, suc}
use mathlib.Core.Path.{◌≡◌, refl}
use native.Mathlib.Omega.{arith}
use Rattle.words.proofs.Accepted.{refused_not}
use Rattle.words.specs.Outcome.{Outcome, refused, accepted, and_then, unless}
use Rattle.model.specs.OnBytes.{number_of}

abbrev pub Proper : {A : Type 0} → Outcome A → Type 0
Proper {A} o = (number_of o ≡ 0) → (a : A) × (o ≡ accepted a)

module _ {A : Type 0} where
  pub proper_accepted : (a : A) → Proper (accepted a)
  proper_accepted a e = (a, refl)

  pub proper_refused : (k : ℕ) → Proper {A = A} (refused (suc k))
  proper_refused k e = absurd (omega arith)

  pub proper_unless : (k : ℕ) (o : Outcome A) → Proper o → Proper (unless k o)
  proper_unless zero o p e = p e
  proper_unless (suc k) o p e = absurd (omega arith)

  pub not_refused : (k : ℕ) → Proper {A = A} (refused k) → k ≡ 0 → ⊥
  not_refused k p e = let a = p e in refused_not k a.0 a.1

  pub proper_then : {B : Type 0} (o : Outcome A) (f : A → Outcome B) → Proper o → ((a : A) → Proper (f a)) → Proper (and_then o f)
  proper_then (refused k) f p q e = absurd (not_refused k p e)
  proper_then (accepted a) f p q e = q a e

  pub number-unless : (k : ℕ) (o : Outcome A) → number_of (unless k o) ≡ 0 → (k ≡ 0) × (number_of o ≡ 0)
  number-unless zero o e = (refl, e)
  number-unless (suc k) o e = absurd (omega arith)
