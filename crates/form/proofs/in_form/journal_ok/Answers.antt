-- `form::in_form::journal_ok` meets its contract, by `journal_tests`.
use native.Mathlib.Omega.{arith}
use Rattle.form.proofs.PassLaws.{slots-pairs, journal_tests}
use Rattle.form.proofs.in_form.journal_ok.Goals as goal

pub used_records_ok-requires : goal.used_records_ok-requires
used_records_ok-requires c =
    let size = c.u16_at.ensures in
    let slots = c.u16_at-used_slots.ensures in
    record {
      start = c.slots_from-slots.ensures;
      count = slots;
      first = omega (arith, c.slots_from-slots.ensures, size);
      blocks = c.u16_at-2.ensures;
      cells = c.u16_at-3.ensures;
      pairs = slots-pairs c.args.b.now c.requires.head_in.1;
      before = omega (arith, c.slots_from-slots.ensures, slots, c.requires.laid.len, c.requires.head_in.0.slots);
      inside = omega (arith, c.slots_from-slots.ensures, size, c.requires.laid.len, c.requires.head_in.0.records);
    }

pub returns : goal.returns
returns c =
    journal_tests c.args.b.now c.requires.laid.len c.slots_from-slots.ensures c.u16_at.ensures
    c.u16_at-used.ensures c.used_records_ok.ensures c.zeros.ensures
