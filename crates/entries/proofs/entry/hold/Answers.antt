-- `entries::entry::hold`: what the two stores left, by `is_held`.
use mathlib.Core.Path.{◌∙◌, ap}
use lib.ListN.{length, length-set}
use lib.Seq.{length-sets}
use native.Mathlib.Omega.{arith}
use Rattle.book.proofs.Write.{is_held}
use Rattle.entries.proofs.entry.hold.Goals as goal

pub put_bytes-requires : goal.put_bytes-requires
put_bytes-requires c = simp length-set (omega arith)

pub shape_of-book : goal.shape_of-book
shape_of-book c = ap length c.put_bytes.ensures ∙ simp (length-sets, length-set)

pub returns : goal.returns
returns c =
    let at = c.entry_offset-at in
    is_held c.requires.holds c.args.p.0 at.result c.requires.p_bound.0 at.ensures
    c.args.print.now c.requires.p_bound.1 c.put_bytes.ensures
