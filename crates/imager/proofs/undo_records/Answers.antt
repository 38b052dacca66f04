use Prim.Native.Nat.{◌-◌}
use mathlib.Core.Path.{◌≡◌}
use native.Mathlib.Omega.{arith}
use Rattle.book.specs.Layout.{told}
use Rattle.book.proofs.Conditions.{rec_in}
use Rattle.imager.proofs.ImagingLaws.{undone_more}
use Rattle.imager.proofs.undo_records.Goals as goal

-- the record's LBN has a cell
pub bounds-image-record : goal.bounds-image-record
bounds-image-record c =
    let w = rec_in (told c.args.book) c.requires.form_facts.parts (c.loop-q.q - 1) (omega arith) in
    omega (arith, w.lbn, c.record_at-record.ensures.lbn)

pub loop-q-preserved : goal.loop-q-preserved
loop-q-preserved c =
    let l = c.loop-q in
    let b = rec_in (told c.args.book) c.requires.form_facts.parts (l.q - 1) (omega arith) in
    (omega arith, undone_more _ (told c.args.book).records c.args.end (omega arith) (omega arith) (omega arith) c.record_at-record.ensures (omega arith) l.invariant.1)

pub returns : goal.returns
returns c =
    let l = c.loop-q in
    let e : c.args.first ≡ l.q = omega arith in
    rw e l.invariant.1
