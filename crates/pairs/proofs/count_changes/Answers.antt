use mathlib.Core.Bool.{not}
use mathlib.Core.Path.{◌≡◌, refl, sym, ap, ◌∙◌}
use native.Mathlib.Omega.{arith}
use Rattle.std.proofs.Common.{Some}
use Rattle.words.proofs.ChoiceLaws.{failed, passed}
use Rattle.runs.specs.Changes.{pair_at, change_count}
use Rattle.runs.proofs.Pairs.{pair_fits_lem}
use Rattle.pairs.proofs.Reading.{fit-more, fit-stop, count-more, pairs_end, counted-fit, counted_unfit}
use Rattle.pairs.proofs.count_changes.Goals as goal

pub loop-i-init : goal.loop-i-init
unfolding change_count
loop-i-init c = (omega arith, omega arith, refl, omega arith)

pub returns-then-not-pair_fits : goal.returns-then-not-pair_fits
unfolding pair_at
returns-then-not-pair_fits c =
    let l = c.loop-i in
    let b = c.args.list.now in
    let first = c.u16_at-first.result in
    let many = c.u16_at-many.result in
    let f = failed c.pair_fits.ensures (ap not c.if-not-pair_fits.true) in
    let stop = fit-stop b l.i first many (omega arith) (omega arith) (omega arith) c.args.l l.end f in
    sym (counted_unfit c.args.l b (l.invariant.2 ∙ stop))

pub loop-i-preserved : goal.loop-i-preserved
unfolding pair_at
loop-i-preserved c =
    let l = c.loop-i in
    let b = c.args.list.now in
    let first = c.u16_at-first.result in
    let many = c.u16_at-many.result in
    let t = passed c.pair_fits.ensures (ap not c.if-not-pair_fits.false) in
    let f = pair_fits_lem c.args.l l.end first many t in
    let n = count-more b l.i first many (omega arith) (omega arith) (omega arith) in (
      omega arith,
      omega arith,
      l.invariant.2 ∙ fit-more b l.i first many (omega arith) (omega arith) (omega arith) c.args.l l.end t,
      omega arith,
    )

pub returns : goal.returns
returns c =
    let l = c.loop-i in
    let b = c.args.list.now in
    let past = pairs_end b l.i (omega arith) in
    let n : change_count b ≡ l.changes = l.invariant.3 ∙ rw past (omega arith) in
    sym (counted-fit c.args.l b (l.invariant.2 ∙ rw past) ∙ ap Some n)
