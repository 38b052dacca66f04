-- No change of a backup is refused by 0 in the plain store.
use Prim.Native.Nat.{ℕ}
use mathlib.Core.Bool.{Bool, true, false}
use mathlib.Core.List.{List, [], ◌∷◌}
use mathlib.Core.Option.{Option, none, some}
use lib.ListN.{get_or}
use Rattle.words.specs.Choice.{when◌then◌else◌}
use Rattle.words.specs.Lists.{same}
use Rattle.words.specs.Outcome.{refused, accepted}
use Rattle.runs.specs.Changes.{Change}
use Rattle.model.specs.Plain.{free, bytes_of}
use Rattle.model.specs.PlainBackup.{PlainWork, PlainPlaced, find_held, find_free, place_free, place_held, place, change_step, run_changes}
use Rattle.claims.proofs.form.Proper.{Proper, proper_accepted, proper_refused, proper_then}

place_proper : (c : Change) (w : PlainWork) → Proper (place c w)
unfolding place place_held place_free
place_proper c w = found (find_held w.blocks c.print)
  where
    taken : (o : Option ℕ) → Proper (place_free c w o)
    taken none = proper_refused 11
    taken (some p) = proper_accepted _

    check : (t : Bool) (d : PlainPlaced) → Proper (when t then accepted d else refused 11)
    check true d = proper_accepted d
    check false d = proper_refused 10

    found : (o : Option ℕ) → Proper (place_held c w o)
    found none = taken (find_free w.blocks w.cursor)
    found (some p) = check (same (bytes_of (get_or w.blocks p free)) c.block) _

step_proper : (c : Change) (w : PlainWork) → Proper (change_step c w)
unfolding change_step
step_proper c w = proper_then (place c w) _ (place_proper c w) (λ d. proper_accepted _)

pub changes_proper : (cs : List Change) (w : PlainWork) → Proper (run_changes cs w)
changes_proper [] w = proper_accepted w
changes_proper (c ∷ cs) w = proper_then (change_step c w) _ (step_proper c w) (λ w'. changes_proper cs w')
