use native.Mathlib.Omega.{arith}
use Rattle.refresh.proofs.Putting.{putting_inside, putting_start, putting_more, putting_end}
use Rattle.refresh.proofs.put_expiries.Goals as goal

pub loop-p-init : goal.loop-p-init
loop-p-init c = putting_start _ c.requires

pub put_expiry-requires : goal.put_expiry-requires
put_expiry-requires c =
    record { holds = c.loop-p.invariant.holds; p_bound = putting_inside _ c.requires c.loop-p.invariant (omega arith) }

pub loop-p-preserved : goal.loop-p-preserved
loop-p-preserved c =
    putting_more _ c.requires c.loop-p.invariant (omega arith) c.put_expiry.ensures

pub returns : goal.returns
returns c = putting_end _ c.requires c.loop-p.invariant (omega arith)
