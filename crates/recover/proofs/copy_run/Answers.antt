use native.Mathlib.Omega.{arith}
use Rattle.recover.proofs.Copying.{copied_none, copied-room, copied_more, copied-place, copied_all}
use Rattle.recover.proofs.copy_run.Goals as goal

pub loop-lbn-init : goal.loop-lbn-init
loop-lbn-init c = copied_none c.requires

pub put_bytes-requires : goal.put_bytes-requires
put_bytes-requires c =
    copied-room c.requires c.loop-lbn.invariant (omega arith) (omega arith)

pub overflow_add-at : goal.overflow_add-at
overflow_add-at c =
    omega (arith, copied-place c.requires c.loop-lbn.invariant (omega arith) (omega arith))

pub loop-lbn-preserved : goal.loop-lbn-preserved
loop-lbn-preserved c =
    copied_more c.requires c.loop-lbn.invariant (omega arith) (omega arith) c.put_bytes.ensures

pub returns : goal.returns
returns c = copied_all c.requires c.loop-lbn.invariant (omega arith)
