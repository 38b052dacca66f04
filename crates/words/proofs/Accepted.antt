-- What it says that an outcome is accepted, or refused.
use Prim.Native.Nat.{ℕ, zero, suc}
use mathlib.Core.Path.{◌≡◌, refl}
use native.Mathlib.Omega.{arith}
use Rattle.words.specs.Outcome.{Outcome, refused, accepted, and_then, unless}

pub refused_not : {A : Type 0} (k : ℕ) (a : A) → refused k ≡ accepted a → ⊥
refused_not k a e = let z : ◌≡◌ {A = ℕ} 0 1 = cc in omega arith

pub accepted-same : {A : Type 0} (a b : A) → accepted a ≡ accepted b → a ≡ b
accepted-same a b e = cc

module _ {A : Type 0} where
  pub unless-accepted : (k : ℕ) (o : Outcome A) (a : A) → unless k o ≡ accepted a → (k ≡ 0) × (o ≡ accepted a)
  unless-accepted zero o a e = (refl, e)
  unless-accepted (suc k) o a e = absurd (refused_not (suc k) a e)

  pub unless-refused : (k : ℕ) (o : Outcome A) → (k ≡ 0 → ⊥) → unless k o ≡ refused k
  unless-refused zero o h = absurd (h refl)
  unless-refused (suc k) o h = refl

  pub then-accepted : {B : Type 0} (o : Outcome A) (f : A → Outcome B) (b : B) → and_then o f ≡ accepted b
      → (a : A) × (o ≡ accepted a) × (f a ≡ accepted b)
  then-accepted (refused k) f b e = absurd (refused_not k b e)
  then-accepted (accepted a) f b e = (a, refl, e)
