-- `put_line`: the word, the blank, the number and the newline, one after the other.
use Prim.Native.Nat.{◌<◌}
use mathlib.Core.Path.{ap, ◌∙◌}
use native.Mathlib.Omega.{arith}
use lib.ListN.{length, length-set}
use lib.Seq.{length-sets}
use Rattle.pages.proofs.Lines.{line-length, line-stored}
use Rattle.pages.proofs.line.put_line.Goals as goal

pub put_bytes-requires : goal.put_bytes-requires
put_bytes-requires c =
    omega (arith, line-length c.args.word.now c.args.n, c.requires)

pub bounds-page-blank : goal.bounds-page-blank
bounds-page-blank c =
    omega (arith, line-length c.args.word.now c.args.n, c.requires, c.put_bytes.auto.b)

pub put_decimal-end-requires : goal.put_decimal-end-requires
put_decimal-end-requires c =
    simp length-set (omega (arith, line-length c.args.word.now c.args.n, c.requires, c.put_bytes.auto.b))

pub bounds-page-end : goal.bounds-page-end
bounds-page-end c =
    let room : c.put_decimal-end.result < length c.put_decimal-end.new.page =
    let long = line-length c.args.word.now c.args.n in
    let same = simp length-set at c.put_decimal-end.auto.page in
    omega (arith, long, c.requires, c.put_bytes.auto.b, c.put_decimal-end.ensures.place, same)
    in
    room

pub overflow_add-result : goal.overflow_add-result
overflow_add-result c =
    let room : c.put_decimal-end.result < length c.put_decimal-end.new.page =
    let long = line-length c.args.word.now c.args.n in
    let same = simp length-set at c.put_decimal-end.auto.page in
    omega (arith, long, c.requires, c.put_bytes.auto.b, c.put_decimal-end.ensures.place, same)
    in
    omega (arith, room, c.put_bytes.auto.b, simp length-set at c.put_decimal-end.auto.page, c.well_formed.0.0)

pub returns : goal.returns
returns c =
    line-stored c.args.word.now c.args.n c.put_bytes.ensures c.put_decimal-end.ensures

pub shape_of-page : goal.shape_of-page
shape_of-page c = ap length (returns c).list ∙ simp length-sets
