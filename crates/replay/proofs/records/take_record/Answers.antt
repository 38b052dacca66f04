-- `super::records::take_record` meets its contract: each of its calls does its part.
use Rattle.book.specs.Layout.{told}
use Rattle.replay.proofs.Bounds.{ReadIn, read_in}
use Rattle.replay.proofs.RecordLaws.{record-taken}
use Rattle.replay.proofs.records.take_record.Goals as goal

pub replace-same-requires : goal.replace-same-requires
replace-same-requires c =
    let known : ReadIn (told c.args.book) c.record_at-change.result = read_in c.requires.form_facts c.args.q c.requires.volume_lt_volumes.1 c.record_at-change.ensures in
    (c.requires.volume_lt_volumes.0, known.in_row)

pub meet-met-requires : goal.meet-met-requires
meet-met-requires c =
    let known : ReadIn (told c.args.book) c.record_at-change.result = read_in c.requires.form_facts c.args.q c.requires.volume_lt_volumes.1 c.record_at-change.ensures in
    known.in_row

pub unmapped_or_held-held-requires : goal.unmapped_or_held-held-requires
unmapped_or_held-held-requires c =
    let known : ReadIn (told c.args.book) c.record_at-change.result = read_in c.requires.form_facts c.args.q c.requires.volume_lt_volumes.1 c.record_at-change.ensures in
    record { form_facts = c.requires.form_facts; fact = known.before }

pub returns : goal.returns
returns c =
    record-taken c.record_at-change.ensures c.replace-same.ensures.value c.replace-same.ensures.cells_after
    c.raise.ensures c.meet-met.ensures.value c.meet-met.ensures.stamps_after c.unmapped_or_held-held.ensures
