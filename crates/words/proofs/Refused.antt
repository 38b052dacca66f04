-- What it says that a number is a refusal's: it isn't 0, and so refuses.
use Prim.Native.Nat.{ℕ, suc}
use mathlib.Core.Path.{◌≡◌, refl}
use Rattle.words.specs.Outcome.{Outcome, refused, unless}
use Rattle.words.specs.Refusals.{number}
use Rattle.words.specs.declared.refusals.Refusal.{Refusal}
use Rattle.words.specs.declared.refusals.Refusal.TheVariants.{BadLayout, BadForm, BadPool, ShortSpare, BadVolume, BadRetention, BadDay, BadList, NoSlot, NoRecord, OtherBytes, NoBlock, CountZero, CountFull, NoBackup, NotKept, BadLbn, NotMapped, BadInput, ShortOutput, BadRun, CountWide}

pub number-some : (e : Refusal) → (k : ℕ) × (number e ≡ suc k)
number-some BadLayout = (0, refl)
number-some BadForm = (1, refl)
number-some BadPool = (2, refl)
number-some ShortSpare = (3, refl)
number-some BadVolume = (4, refl)
number-some BadRetention = (5, refl)
number-some BadDay = (6, refl)
number-some BadList = (7, refl)
number-some NoSlot = (8, refl)
number-some NoRecord = (9, refl)
number-some OtherBytes = (10, refl)
number-some NoBlock = (11, refl)
number-some CountZero = (12, refl)
number-some CountFull = (13, refl)
number-some NoBackup = (14, refl)
number-some NotKept = (15, refl)
number-some BadLbn = (16, refl)
number-some NotMapped = (17, refl)
number-some BadInput = (18, refl)
number-some ShortOutput = (19, refl)
number-some BadRun = (20, refl)
number-some CountWide = (21, refl)

module _ {A : Type 0} where
  pub unless-number : (e : Refusal) (o : Outcome A) → unless (number e) o ≡ refused (number e)
  unless-number e o = let s = number-some e in rw s.1 refl

  -- k is the number that e tells
  pub unless-refusal : (e : Refusal) {k : ℕ} (o : Outcome A) → number e ≡ k → unless k o ≡ refused (number e)
  unless-refusal e o h = rw (← h) (unless-number e o)

pub number-not_zero : (e : Refusal) → number e ≡ 0 → ⊥
number-not_zero e h = let s = number-some e in let z : ◌≡◌ {A = ℕ} 0 (suc s.0) = rw (← h) s.1 in cc
