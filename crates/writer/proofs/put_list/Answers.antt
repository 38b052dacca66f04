-- `put_list`: after each call, the sections that follow are left to store.
use native.Mathlib.Omega.{arith}
use Rattle.words.proofs.LayingLaws.{left-last}
use Rattle.writer.proofs.Whole.{AfterNumber, AfterPairs, AfterPrints}
use Rattle.writer.proofs.Whole.{number-room, number-stored, pairs-room, pairs-stored, prints-room, prints-stored}
use Rattle.writer.proofs.put_list.Goals as goal

pub put_u16-requires : goal.put_u16-requires
put_u16-requires c = omega (arith, number-room c.requires)

pub put_runs-prints_from-requires : goal.put_runs-prints_from-requires
put_runs-prints_from-requires c =
    let number : (let a = c.args in
    AfterNumber a.marks.now a.prints.now a.image.now a.list.now c.put_u16.new.b 2) = number-stored c.requires c.put_u16.ensures in
    (c.requires.most, omega (arith, pairs-room c.requires number))

pub put_marked-blocks_from-requires : goal.put_marked-blocks_from-requires
put_marked-blocks_from-requires c =
    let number : (let a = c.args in
    AfterNumber a.marks.now a.prints.now a.image.now a.list.now c.put_u16.new.b 2) = number-stored c.requires c.put_u16.ensures in
    let pairs : (let a = c.args in
    let w = c.put_runs-prints_from in
    AfterPairs a.marks.now a.prints.now a.image.now a.list.now w.new.list w.result) = pairs-stored c.requires number c.put_runs-prints_from.ensures in
    record { elements_len = c.requires.prints; marks_in_bounds = prints-room c.requires pairs }

pub put_marked-requires : goal.put_marked-requires
put_marked-requires c =
    let number : (let a = c.args in
    AfterNumber a.marks.now a.prints.now a.image.now a.list.now c.put_u16.new.b 2) = number-stored c.requires c.put_u16.ensures in
    let pairs : (let a = c.args in
    let w = c.put_runs-prints_from in
    AfterPairs a.marks.now a.prints.now a.image.now a.list.now w.new.list w.result) = pairs-stored c.requires number c.put_runs-prints_from.ensures in
    let prints : (let a = c.args in
    let w = c.put_marked-blocks_from in
    AfterPrints a.marks.now a.prints.now a.image.now a.list.now w.new.list w.result) = prints-stored c.requires pairs c.put_marked-blocks_from.ensures in
    record { elements_len = c.requires.image; marks_in_bounds = prints.room }

pub returns : goal.returns
returns c =
    let number : (let a = c.args in
    AfterNumber a.marks.now a.prints.now a.image.now a.list.now c.put_u16.new.b 2) = number-stored c.requires c.put_u16.ensures in
    let pairs : (let a = c.args in
    let w = c.put_runs-prints_from in
    AfterPairs a.marks.now a.prints.now a.image.now a.list.now w.new.list w.result) = pairs-stored c.requires number c.put_runs-prints_from.ensures in
    let prints : (let a = c.args in
    let w = c.put_marked-blocks_from in
    AfterPrints a.marks.now a.prints.now a.image.now a.list.now w.new.list w.result) = prints-stored c.requires pairs c.put_marked-blocks_from.ensures in
    (left-last prints c.put_marked.ensures).list
