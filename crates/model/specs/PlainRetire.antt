-- Retire on the plain store (document 02, K6): "its newest map stops being current and stays in the list".
use Rattle.std.specs.Prelude.{ℕ, ◌+◌, not, ◌||◌, length, leb, ltb, eqb}
use Rattle.words.specs.Blocks.{unmapped}
use Rattle.words.specs.Choice.{when◌then◌else◌}
use Rattle.words.specs.Lists.{count_of}
use Rattle.words.specs.Outcome.{Outcome, accepted, unless}
use Rattle.model.specs.Days.{bad_day, not_after}
use Rattle.model.specs.Plain.{retirement, Plain, at_day, with_taken, taken_of, days_of, no_living, current_of}
use Rattle.model.specs.PlainBackup.{changes_in}

-- how many cells of its current map are mapped
abbrev pub cells_of : Plain → ℕ → ℕ
cells_of q v = count_of (λ p. not (eqb p unmapped)) (current_of q v)

-- numbers 5, 7, 9 and 10; 9 and 10 count "it and its cells"
unfoldable pub retire_number : Plain → ℕ → ℕ → ℕ
retire_number q v t =
    when no_living q v then 5 else
    when bad_day q.day t || not_after (days_of (taken_of v q.taken)) t then 7 else
    when leb q.sizes.s (length q.taken) then 9 else
    when ltb q.sizes.j (changes_in q.taken + cells_of q v) then 10 else
    0

pub record PlainRetired : Type 0 where
  pub store : Plain
  pub cells : ℕ

unfoldable pub retired : Plain → ℕ → ℕ → PlainRetired
retired q v t = record {
  store = at_day t (with_taken (record { volume = v; day = t; what = retirement; changes = cells_of q v }) q);
  cells = cells_of q v;
}

unfoldable pub retire : Plain → ℕ → ℕ → Outcome PlainRetired
retire q v t = unless (retire_number q v t) (accepted (retired q v t))
