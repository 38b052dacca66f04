-- `form::in_form::slots_ok` meets its contract, by `slots_tests`.
use native.Mathlib.Omega.{arith}
use Rattle.form.proofs.PassLaws.{slots_tests}
use Rattle.form.proofs.in_form.slots_ok.Goals as goal

pub used_slots_ok-requires : goal.used_slots_ok-requires
used_slots_ok-requires c =
    let used = c.u16_at-used.ensures in
    let day = c.u16_at-2.ensures in
    record {
      kind = omega (arith, c.requires.laid.sizes.layout);
      start = c.slots_from-from.ensures;
      slots = used;
      records = c.u16_at-records.ensures;
      day = day;
      few = omega (arith, used, c.requires.head_in.slots, c.requires.laid.sizes.s);
      low = omega (arith, day, c.requires.head_in.day);
      inside = omega (arith, c.slots_from-from.ensures, used, c.requires.laid.len, c.requires.head_in.slots);
    }

pub returns : goal.returns
returns c =
    slots_tests c.args.b.now c.slots_from-from.ensures c.u16_at-used.ensures
    c.u16_at.ensures c.used_slots_ok.ensures c.zeros.ensures
