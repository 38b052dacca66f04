-- What a backup's changes do in the plain store: the copy shows what they sent.
use Prim.Native.Nat.{ℕ, ◌≤◌}
use mathlib.Core.Path.{◌≡◌, refl, ap, ◌∙◌, subst}
use mathlib.Core.List.{List, [], ◌∷◌}
use mathlib.Core.Option.{Option, none, some}
use native.Mathlib.Omega.{arith}
use lib.Dec.{eqb}
use lib.ListN.{length, length-set}
use Rattle.words.specs.Blocks.{unmapped}
use Rattle.words.specs.Choice.{when◌then◌else◌}
use Rattle.words.specs.Lists.{or_else}
use Rattle.words.specs.Outcome.{accepted}
use Rattle.words.proofs.Accepted.{then-accepted, accepted-same}
use Rattle.runs.specs.Changes.{Change}
use Rattle.model.specs.Plain.{Block}
use Rattle.model.specs.PlainBackup.{PlainWork, PlainPlaced, place, moved, change_step, run_changes}
use Rattle.model.specs.History.{last_block}
use Rattle.claims.proofs.plain.HistoryLaws.{or_else_else}
use Rattle.claims.proofs.plain.PlainShows.{Maps, Carries, changed, maps-same, carries_same, carries_over, maps-set, carries-set}
use Rattle.claims.proofs.plain.PlainPlacing.{Grown, grown-then, PlacedFor, place-placed}

-- what the changes sent, or else s
abbrev pub sent_over : List Change → (ℕ → Option (List ℕ)) → ℕ → Option (List ℕ)
sent_over cs s lbn = or_else (last_block lbn cs) (s lbn)

-- where a backup stands that began with blocks bs, and whose copy is to show s
pub record Copies (l : ℕ) (bs : List Block) (s : ℕ → Option (List ℕ)) (w : PlainWork) : Type 0 where
  pub grown : Grown bs w.blocks
  pub wide : length w.copy ≡ l
  pub maps : Maps l w.copy s
  pub carries : Carries l w.blocks w.copy s

module _ (l : ℕ) (bs : List Block) (room : length bs ≤ unmapped) where
  move-copies : (s : ℕ → Option (List ℕ)) (c : Change) (w : PlainWork) (d : PlainPlaced) → Copies l bs s w → PlacedFor c w d
      → Copies l bs (changed c.lbn c.block s) (moved c.lbn d)
  unfolding moved
  move-copies s c w d a r =
      let maps : Maps l d.work.copy s = rw r.copy a.maps in
      let carries : Carries l d.work.blocks d.work.copy s =
      rw r.copy
      (carries_over l w.blocks d.work.blocks w.copy s (omega (arith, r.grown.long, a.grown.long)) a.maps a.carries
      (λ lbn b h e k. r.grown.keeps _ b k)) in
      let wide : length d.work.copy ≡ l = ap length r.copy ∙ a.wide in
      record {
        grown = grown-then a.grown r.grown;
        wide = length-set d.work.copy c.lbn d.pbn ∙ wide;
        maps = maps-set l d.work.copy s c.lbn d.pbn c.block wide (omega (arith, r.inside, a.grown.long)) maps;
        carries = carries-set l d.work.copy s c.lbn d.pbn c.block wide d.work.blocks r.shows carries;
      }

  copies-same : (s s' : ℕ → Option (List ℕ)) (w : PlainWork) → ((lbn : ℕ) → s lbn ≡ s' lbn) → Copies l bs s w → Copies l bs s' w
  copies-same s s' w f a = record {
    grown = a.grown;
    wide = a.wide;
    maps = maps-same l w.copy w.copy s s' refl f a.maps;
    carries = carries_same l w.copy w.copy s s' refl f w.blocks a.carries;
  }

  step-copies : (s : ℕ → Option (List ℕ)) (c : Change) (w w' : PlainWork) → Copies l bs s w → change_step c w ≡ accepted w'
      → Copies l bs (changed c.lbn c.block s) w'
  unfolding change_step
  step-copies s c w w' a e =
      let p = then-accepted (place c w) (λ d. accepted (moved c.lbn d)) w' e in
      subst (λ (x : PlainWork). Copies l bs (changed c.lbn c.block s) x) (accepted-same (moved c.lbn p.0) w' p.2)
      (move-copies s c w p.0 a (place-placed c w p.0 p.1))

  -- the copy shows what the changes sent last, or else what it showed
  pub run-copies : (cs : List Change) (s : ℕ → Option (List ℕ)) (w w' : PlainWork) → Copies l bs s w → run_changes cs w ≡ accepted w'
      → Copies l bs (sent_over cs s) w'
  run-copies [] s w w' a e = subst (λ (x : PlainWork). Copies l bs s x) (cc) a
  run-copies (c ∷ cs) s w w' a e =
      let r = then-accepted (change_step c w) (λ x. run_changes cs x) w' e in
      let ih = run-copies cs (changed c.lbn c.block s) r.0 w' (step-copies s c w r.0 a r.1) r.2 in
      copies-same (sent_over cs (changed c.lbn c.block s)) (sent_over (c ∷ cs) s) w'
      (λ lbn. or_else_else (last_block lbn cs) (when eqb c.lbn lbn then some c.block else none) (s lbn)) ih
