use Rattle.accounts.proofs.MapsTakenLaws.{taking_start, taking_row, taking_end}
use native.Mathlib.Omega.{arith}
use Rattle.accounts.proofs.maps.maps_match.Goals as goal

pub loop-v-init : goal.loop-v-init
loop-v-init c = taking_start _ _ (omega arith)

pub take_row-same-requires : goal.take_row-same-requires
take_row-same-requires c =
    let w = c.loop-v.invariant in
    record { form_facts = c.requires; v_lt_volumes = (omega arith, w.few) }

pub loop-v-preserved : goal.loop-v-preserved
loop-v-preserved c =
    taking_row c.requires (omega arith) c.loop-v.invariant c.take_row-same.ensures

pub returns : goal.returns
returns c =
    taking_end c.requires (omega arith) c.loop-v.invariant
