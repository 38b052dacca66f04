use Prim.Native.Nat.{◌+◌, ◌%◌, ◌<◌}
use native.Mathlib.Omega.{arith}
use lib.ListN.{length}
use Rattle.pages.proofs.Decimal.{decimal-one, decimal-more, count-one, count-more}
use Rattle.words.proofs.SectionsLaid.{stored_one, stored_append}
use Rattle.pages.proofs.line.+put_decimal.Goals as goal

pub bounds-page-at : goal.bounds-page-at
bounds-page-at t c = omega (arith, count-one c.args.n (omega arith))

pub returns-then-n-lt10 : goal.returns-then-n-lt10
returns-then-n-lt10 t c =
    let a = c.args in
    rw (decimal-one a.n (omega arith)) (stored_one (48 + a.n))

pub put_decimal-last-requires : goal.put_decimal-last-requires
put_decimal-last-requires t c =
    (omega (arith, c.decreases), omega (arith, count-more c.args.n (omega arith), c.requires))

pub bounds-page-last : goal.bounds-page-last
bounds-page-last t c =
    let digits = count-more c.args.n (omega arith) in
    omega (arith, c.put_decimal-last.ensures.place, c.put_decimal-last.auto.page, digits, c.requires)

pub overflow_add-result-2 : goal.overflow_add-result-2
overflow_add-result-2 t c =
    let digits = count-more c.args.n (omega arith) in
    let room : c.put_decimal-last.result < length c.put_decimal-last.new.page =
    omega (arith, c.put_decimal-last.ensures.place, c.put_decimal-last.auto.page, digits, c.requires)
    in
    omega (arith, room, c.put_decimal-last.auto.page, c.well_formed.0.0)

pub returns : goal.returns
returns t c =
    rw (decimal-more c.args.n (omega arith))
    (stored_append c.put_decimal-last.ensures (stored_one (48 + c.args.n % 10)))
