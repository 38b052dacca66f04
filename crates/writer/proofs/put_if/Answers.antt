-- `put_if`: the two cases of a mark.
use mathlib.Core.Path.{refl, sym}
use native.Mathlib.Nat.{add-zero}
use Rattle.writer.proofs.Writing.{marked-bytes, other-bytes}
use Rattle.writer.proofs.put_if.Goals as goal

pub returns-then-mark-ne1 : goal.returns-then-mark-ne1
returns-then-mark-ne1 c = rw (other-bytes _ _ c.if-mark-ne1.true) (record { list = refl; place = sym (add-zero _) })

pub put_bytes-requires : goal.put_bytes-requires
put_bytes-requires c = rw (marked-bytes _ _ c.if-mark-ne1.false) at c.requires

pub returns : goal.returns
returns c =
    let a = c.args in
    rw (marked-bytes a.mark a.bytes.now c.if-mark-ne1.false) (record { list = c.put_bytes.ensures; place = refl })
