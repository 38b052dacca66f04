-- `sections::blocks::rest_ok` meets its contract: each way out is one of the ways that an entry goes.
use mathlib.Core.Path.{◌∙◌}
use native.Mathlib.Omega.{arith}
use Rattle.sections.proofs.CheckLaws.{bad_state, late-expiry, held-entry, counted-free, free-entry}
use Rattle.sections.proofs.blocks.rest_ok.Goals as goal

pub returns-then-state-gt1 : goal.returns-then-state-gt1
returns-then-state-gt1 c =
    bad_state c.args.b.now c.args.count c.args.at c.requires (omega arith)

pub returns-then-u16_at-gt-MAX_EXPIRY : goal.returns-then-u16_at-gt-MAX_EXPIRY
returns-then-u16_at-gt-MAX_EXPIRY c =
    late-expiry c.args.b.now c.args.count c.args.at c.requires (omega arith) (omega arith)

pub returns-then-state-eq1 : goal.returns-then-state-eq1
returns-then-state-eq1 c =
    held-entry c.args.b.now c.args.count c.args.at c.requires (omega arith) (omega arith)

pub returns-then-count-ne0 : goal.returns-then-count-ne0
returns-then-count-ne0 c =
    counted-free c.args.b.now c.args.count c.args.at c.requires (omega arith) (omega arith) (omega arith)

pub returns : goal.returns
returns c =
    c.zeros.ensures ∙ free-entry c.args.b.now c.args.count c.args.at c.requires (omega arith) (omega arith) (omega arith)
