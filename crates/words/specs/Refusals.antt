-- A refusal as a call answers it: its number in document 01, "Numbers of refusal", and what the call's outcome is by that.
use Rattle.std.specs.Prelude.{ℕ, Result, Ok, Err}
use Rattle.words.specs.Outcome.{Outcome, refused, accepted}
use Rattle.words.specs.declared.refusals.Refusal.{Refusal}
use Rattle.words.specs.declared.refusals.Refusal.TheVariants.{BadLayout, BadForm, BadPool, ShortSpare, BadVolume, BadRetention, BadDay, BadList, NoSlot, NoRecord, OtherBytes, NoBlock, CountZero, CountFull, NoBackup, NotKept, BadLbn, NotMapped, BadInput, ShortOutput, BadRun, CountWide}

abbrev pub number : Refusal → ℕ
number BadLayout = 1
number BadForm = 2
number BadPool = 3
number ShortSpare = 4
number BadVolume = 5
number BadRetention = 6
number BadDay = 7
number BadList = 8
number NoSlot = 9
number NoRecord = 10
number OtherBytes = 11
number NoBlock = 12
number CountZero = 13
number CountFull = 14
number NoBackup = 15
number NotKept = 16
number BadLbn = 17
number NotMapped = 18
number BadInput = 19
number ShortOutput = 20
number BadRun = 21
number CountWide = 22

module _ {T : Type 0} where
  -- 0 where nothing refuses
  abbrev pub refusal_number : Result T Refusal → ℕ
  refusal_number (Ok t) = 0
  refusal_number (Err e) = number e

  -- the outcome that a result tells of, whose answer is f's
  abbrev pub outcome_by : {A : Type 0} → (T → A) → Result T Refusal → Outcome A
  outcome_by f (Ok t) = accepted (f t)
  outcome_by f (Err e) = refused (number e)
