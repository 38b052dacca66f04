-- `super::records::unmapped_or_held` meets its contract.
use mathlib.Core.Logic.{⊎_elim}
use borrow.Author.Tests.{eq-eqb, ne_eqb}
use Rattle.words.specs.Blocks.{unmapped}
use Rattle.model.specs.Audit.{cell_sound}
use Rattle.replay.proofs.records.unmapped_or_held.Goals as goal

pub returns-then-p-eq-UNMAPPED : goal.returns-then-p-eq-UNMAPPED
unfolding cell_sound
returns-then-p-eq-UNMAPPED c = rw (eq-eqb c.args.p.0 unmapped c.if-p-eq-UNMAPPED.true)

pub is_held-requires : goal.is_held-requires
is_held-requires c =
    record { holds = c.requires.form_facts.holds; p_bound = ⊎_elim (λ h. h) (λ h. absurd (c.if-p-eq-UNMAPPED.false h)) c.requires.fact }

pub returns : goal.returns
unfolding cell_sound
returns c = rw (ne_eqb c.args.p.0 unmapped c.if-p-eq-UNMAPPED.false) c.is_held.ensures
