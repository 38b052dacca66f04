use mathlib.Core.Path.{◌≡◌}
use Rattle.book.specs.Layout.{told}
use Rattle.replay.proofs.RecordLaws.{records-start, records-more, records-end}
use native.Mathlib.Omega.{arith}
use Rattle.replay.proofs.records.take_records.Goals as goal

pub loop-q-init : goal.loop-q-init
loop-q-init c = records-start _ _ _ _

pub take_record-taken-requires : goal.take_record-taken-requires
take_record-taken-requires c =
    record { form_facts = c.requires.form_facts; volume_lt_volumes = (c.requires.volume_lt_volumes.0, omega arith) }

pub loop-q-preserved : goal.loop-q-preserved
loop-q-preserved c =
    let l = c.loop-q in
    let rs = (told c.args.book).records in
    records-more _ _ _ _ rs l.q c.args.end (omega arith) (omega arith) c.take_record-taken.ensures l.invariant

pub returns : goal.returns
returns c =
    let l = c.loop-q in
    let e : l.q ≡ c.args.end = omega arith in
    records-end _ _ _ _ (told c.args.book).records l.q c.args.end e l.invariant
