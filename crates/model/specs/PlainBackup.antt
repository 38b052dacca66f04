-- Backup on the plain store (document 01, "The plain store").
use Rattle.std.specs.Prelude.{ℕ, suc, ◌+◌, ◌%◌, Bool, false, not, ◌||◌, List, [], ◌∷◌, map, length, get_or, take, drop, set, leb, ltb, eqb}
use Rattle.std.proofs.Math.Option.{Option, none, some}
use Rattle.words.specs.Blocks.{unmapped}
use Rattle.words.specs.Choice.{when◌then◌else◌}
use Rattle.words.specs.Lists.{place_from, or_else, same, sum}
use Rattle.words.specs.Outcome.{Outcome, refused, accepted, and_then, unless}
use Rattle.runs.specs.Changes.{Change, changes, change_count, list_number}
use Rattle.model.specs.Days.{bad_day, not_after}
use Rattle.model.specs.Plain.{Block, free, held, image, Taken, Plain, at_day, with_blocks, with_taken, taken_of, days_of}
use Rattle.model.specs.Plain.{maps_of, no_living, current_of, is_free, bytes_of}

-- "9 and 10 count all backups and changes so far", and retirements and their cells (document 02, K6)
abbrev pub changes_in : List Taken → ℕ
changes_in is = sum (map (λ (i : Taken). i.changes) is)

-- numbers 5 to 10
unfoldable pub backup_number : Plain → ℕ → ℕ → List ℕ → ℕ
backup_number q v t list =
    when no_living q v then 5 else
    when bad_day q.day t || not_after (days_of (taken_of v q.taken)) t then 7 else
    when not (eqb (list_number q.sizes.l list) 0) then 8 else
    when leb q.sizes.s (length q.taken) then 9 else
    when ltb q.sizes.j (changes_in q.taken + change_count list) then 10 else
    0

-- ---- the changes: "for each change runs steps 1 and 2 and sets the cell in the copy"

pub record PlainWork : Type 0 where
  pub blocks : List Block
  pub cursor : ℕ
  pub copy : List ℕ
  pub taken : ℕ
  pub touched : ℕ

pub record PlainPlaced : Type 0 where
  pub pbn : ℕ
  pub work : PlainWork

abbrev pub has_print : List ℕ → Block → Bool
has_print f free = false
has_print f (held g b) = same g f

-- steps 1 and 2, with 11 and 12
unfoldable pub find_held : List Block → List ℕ → Option ℕ
find_held bs f = place_from 0 (has_print f) bs

unfoldable pub find_free : List Block → ℕ → Option ℕ
find_free bs c = or_else (place_from c is_free (drop c bs)) (place_from 0 is_free (take c bs))

unfoldable pub take_block : Change → ℕ → PlainWork → PlainWork
take_block c p w = record {
  blocks = set w.blocks p (held c.print c.block);
  cursor = suc p % length w.blocks;
  copy = w.copy;
  taken = suc w.taken;
  touched = w.touched;
}

unfoldable pub place_free : Change → PlainWork → Option ℕ → Outcome PlainPlaced
place_free c w none = refused 12
place_free c w (some p) = accepted (record { pbn = p; work = take_block c p w })

unfoldable pub place_held : Change → PlainWork → Option ℕ → Outcome PlainPlaced
place_held c w none = place_free c w (find_free w.blocks w.cursor)
place_held c w (some p) = when same (bytes_of (get_or w.blocks p free)) c.block then accepted (record { pbn = p; work = w }) else refused 11

unfoldable pub place : Change → PlainWork → Outcome PlainPlaced
place c w = place_held c w (find_held w.blocks c.print)

-- "Taken, touched and freed are counted as above"
unfoldable pub moved : ℕ → PlainPlaced → PlainWork
moved lbn d = record {
  blocks = d.work.blocks;
  cursor = d.work.cursor;
  copy = set d.work.copy lbn d.pbn;
  taken = d.work.taken;
  touched = d.work.touched + (when eqb (get_or d.work.copy lbn unmapped) unmapped then 1 else 2);
}

-- 11 and 12 are all that stops a change: 14 comes from damage alone, so "the plain store drops it as well" (document 02, K3)
unfoldable pub change_step : Change → PlainWork → Outcome PlainWork
change_step c w = and_then (place c w) (λ d. accepted (moved c.lbn d))

abbrev pub run_changes : List Change → PlainWork → Outcome PlainWork
run_changes [] w = accepted w
run_changes (c ∷ cs) w = and_then (change_step c w) (λ w'. run_changes cs w')

-- ---- the whole call: "copies the current map, .. and appends the copy with T"

pub record PlainBacked : Type 0 where
  pub store : Plain
  pub number : ℕ
  pub taken : ℕ
  pub touched : ℕ

unfoldable pub begun : Plain → ℕ → PlainWork
begun q v = record { blocks = q.blocks; cursor = q.cursor; copy = current_of q v; taken = 0; touched = 0 }

unfoldable pub closed : Plain → ℕ → ℕ → ℕ → PlainWork → PlainBacked
closed q v t n w = record {
  store =
      at_day t
      (with_blocks w.blocks w.cursor
      (with_taken (record { volume = v; day = t; what = image w.copy; changes = n }) q));
  number = suc (length (maps_of (taken_of v q.taken)));
  taken = w.taken;
  touched = w.touched;
}

unfoldable pub backup : Plain → ℕ → ℕ → List ℕ → Outcome PlainBacked
backup q v t list =
    unless (backup_number q v t list)
    (and_then (run_changes (changes list) (begun q v)) (λ w. accepted (closed q v t (change_count list) w)))
