-- Calls and their answers, as lists of calls have them (document 01, "Lists hold enrol, backup, collect, read and audit"; document 02, K6,
-- "Compared lists include retiring").
use Rattle.std.specs.Prelude.{ℕ, Bool, true, List, [], ◌∷◌, eqb}

pub data Call : Type 0 where
  enrol : ℕ → ℕ → Call  -- volume, retention
  backup : ℕ → ℕ → List ℕ → Call  -- volume, day, change list
  collect : ℕ → Call  -- day
  retire : ℕ → ℕ → Call  -- volume, day
  read : ℕ → ℕ → ℕ → Call  -- volume, number, LBN
  audit : Call

-- "the number of a refusal; an enrol's 0; a backup's number, taken and touched; a collect's freed; a read's bytes or its number; an
-- audit's yes or no"; a retire's number of cells (document 02, K6)
pub data Answer : Type 0 where
  number : ℕ → Answer  -- of a refusal; 0 of an accepted call that answers nothing else
  gave : List ℕ → Answer  -- the numbers that an accepted call answers
  block : List ℕ → Answer
  sound : Bool → Answer

-- "a backup's number, taken and touched"
abbrev pub backed : ℕ → ℕ → ℕ → Answer
backed k taken touched = gave (k ∷ taken ∷ touched ∷ [])

-- "a collect's freed"
abbrev pub freed : ℕ → Answer
freed k = gave (k ∷ [])

abbrev pub is_accepted : Answer → Bool
is_accepted (number k) = eqb k 0
is_accepted (gave ns) = true
is_accepted (block b) = true
is_accepted (sound b) = true
