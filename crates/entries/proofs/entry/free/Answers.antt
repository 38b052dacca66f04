-- `entries::entry::free`: what the two stores left, by `is-freed`.
use mathlib.Core.Path.{◌∙◌, ap}
use lib.ListN.{length, length-set}
use lib.Seq.{length-sets}
use native.Mathlib.Omega.{arith}
use Rattle.book.proofs.Write.{is-freed}
use Rattle.entries.proofs.entry.free.Goals as goal

pub fill-requires : goal.fill-requires
fill-requires c = simp length-set (omega arith)

pub shape_of-book : goal.shape_of-book
shape_of-book c = ap length c.fill.ensures ∙ simp (length-sets, length-set)

pub returns : goal.returns
returns c =
    let at = c.entry_offset-at in
    is-freed c.requires.holds c.args.p.0 at.result c.requires.p_bound at.ensures c.fill.ensures
