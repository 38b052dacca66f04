use Prim.Native.Nat.{◌<◌}
use mathlib.Core.Path.{◌≡◌, refl, ◌∙◌}
use native.Mathlib.Omega.{arith}
use lib.ListN.{length}
use Rattle.book.specs.Layout.{book_of}
use Rattle.finder.specs.Indexed.{Indexed}
use Rattle.index.proofs.Without.{without}
use Rattle.index.proofs.Joining.{Joins, home_of}
use Rattle.index.proofs.Holding.{held-joins, held-home, held-without}
use Rattle.index.proofs.InsertLaws.{walk_start, walk_up, walk_more, insert_first, insert_after}
use Rattle.index.proofs.inserting.hold.Goals as goal

pub returns-then-p-first : goal.returns-then-p-first
returns-then-p-first c =
    let a = c.args in
    let h = c.bucket_of-home in
    let es = (book_of c.hold.new.book).entries in
    let inside : a.p.0 < length (book_of a.book.now).entries = omega (arith, c.requires.holds.sized.entries) in
    let joins : Joins es a.p.0 = held-joins a.print.now a.p.0 a.book.now c.hold.ensures inside in
    let index : Indexed (without a.p.0 es) a.index.now.heads a.index.now.nexts =
    held-without a.print.now a.p.0 a.book.now c.hold.ensures c.requires.p_bound.1 c.requires.indexed
    in
    let home : h.result ≡ home_of es a.p.0 = h.ensures.0 ∙ held-home a.print.now a.p.0 a.book.now c.hold.ensures inside in
    record { is = c.hold.ensures; indexed_2 = insert_first joins index h.result h.ensures.1 home (omega (arith, c.if-p-first.true)) }

pub loop-next-init : goal.loop-next-init
loop-next-init c =
    let a = c.args in
    let h = c.bucket_of-home in
    let es = (book_of c.hold.new.book).entries in
    let inside : a.p.0 < length (book_of a.book.now).entries = omega (arith, c.requires.holds.sized.entries) in
    let joins : Joins es a.p.0 = held-joins a.print.now a.p.0 a.book.now c.hold.ensures inside in
    let index : Indexed (without a.p.0 es) a.index.now.heads a.index.now.nexts =
    held-without a.print.now a.p.0 a.book.now c.hold.ensures c.requires.p_bound.1 c.requires.indexed
    in
    let home : h.result ≡ home_of es a.p.0 = h.ensures.0 ∙ held-home a.print.now a.p.0 a.book.now c.hold.ensures inside in
    (walk_start joins index h.result h.ensures.1 home (omega (arith, c.if-p-first.false)), refl)

pub loop-next-smaller : goal.loop-next-smaller
loop-next-smaller c =
    let a = c.args in
    let h = c.bucket_of-home in
    let es = (book_of c.hold.new.book).entries in
    let inside : a.p.0 < length (book_of a.book.now).entries = omega (arith, c.requires.holds.sized.entries) in
    let joins : Joins es a.p.0 = held-joins a.print.now a.p.0 a.book.now c.hold.ensures inside in
    let index : Indexed (without a.p.0 es) a.index.now.heads a.index.now.nexts =
    held-without a.print.now a.p.0 a.book.now c.hold.ensures c.requires.p_bound.1 c.requires.indexed
    in
    omega (arith, c.loop-next-test.true, c.loop-next.invariant.1, walk_up joins index c.loop-next.q c.loop-next.invariant.0)

pub loop-next-preserved : goal.loop-next-preserved
loop-next-preserved c =
    let a = c.args in
    let h = c.bucket_of-home in
    let es = (book_of c.hold.new.book).entries in
    let inside : a.p.0 < length (book_of a.book.now).entries = omega (arith, c.requires.holds.sized.entries) in
    let joins : Joins es a.p.0 = held-joins a.print.now a.p.0 a.book.now c.hold.ensures inside in
    let index : Indexed (without a.p.0 es) a.index.now.heads a.index.now.nexts =
    held-without a.print.now a.p.0 a.book.now c.hold.ensures c.requires.p_bound.1 c.requires.indexed
    in
    let l = c.loop-next in
    let more = rw l.invariant.1 at c.loop-next-test.true in
    (rw l.invariant.1 (walk_more joins index l.q l.invariant.0 more), refl)

pub returns : goal.returns
returns c =
    let a = c.args in
    let h = c.bucket_of-home in
    let es = (book_of c.hold.new.book).entries in
    let inside : a.p.0 < length (book_of a.book.now).entries = omega (arith, c.requires.holds.sized.entries) in
    let joins : Joins es a.p.0 = held-joins a.print.now a.p.0 a.book.now c.hold.ensures inside in
    let index : Indexed (without a.p.0 es) a.index.now.heads a.index.now.nexts =
    held-without a.print.now a.p.0 a.book.now c.hold.ensures c.requires.p_bound.1 c.requires.indexed
    in
    let l = c.loop-next in
    record { is = c.hold.ensures; indexed_2 = insert_after joins index l.q l.next l.invariant.0 l.invariant.1 (omega (arith, c.loop-next-test.false)) }
