-- `restorer::image::slot_before` meets its contract: in a book in form a slot's pair names its records.
use mathlib.Core.Path.{sym}
use native.Mathlib.Omega.{arith}
use lib.ListN.{length}
use Rattle.book.proofs.Conditions.{pairs_in}
use Rattle.book.specs.Layout.{told}
use Rattle.restorer.proofs.BeforeLaws.{slot-own, slot-other}
use Rattle.restorer.proofs.image.slot_before.Goals as goal

pub returns-then-slot-v : goal.returns-then-slot-v
returns-then-slot-v c =
    sym (slot-other _ _ _ _ c.slot_at-slot.result c.slot_at-slot.ensures (λ e. omega arith))

pub first_before-requires-clause-number_in_bounds : goal.first_before-requires-clause-number_in_bounds
first_before-requires-clause-number_in_bounds c =
    let p = c.requires in
    let x = told c.args.book in
    omega (arith, pairs_in x.slots 0 (length x.records) p.form_facts.parts.pairs c.args.q p.q_in_bounds)

pub returns : goal.returns
returns c =
    let a = c.args in
    let p = c.requires in
    let own =
    slot-own (told a.book) a.v a.q a.lbn.0 c.slot_at-slot.result c.slot_at-slot.ensures
    p.form_facts.parts.pairs p.q_in_bounds (omega arith)
    in
    rw own c.first_before.ensures
