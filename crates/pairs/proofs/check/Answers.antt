-- `pairs::check`: a refusal at each test that fails, and the numbers of the list where none does.
use mathlib.Core.Path.{sym}
use native.Mathlib.Omega.{arith}
use Rattle.words.proofs.ChoiceLaws.{not_both}
use Rattle.runs.specs.Changes.{pair_count, pairs, list_size, pairs_fit}
use Rattle.pairs.proofs.Reading.{fit-counted, counted-within, unfit_counted}
use Rattle.pairs.proofs.Checks.{accepted-good, unaccepted_refused}
use Rattle.pairs.proofs.check.Goals as goal

pub returns-then-list-lt2 : goal.returns-then-list-lt2
returns-then-list-lt2 c =
    sym (unaccepted_refused c.args.l c.args.list.now (λ a. omega arith))

pub returns-then-list-prints_from : goal.returns-then-list-prints_from
unfolding pair_count list_size
returns-then-list-prints_from c =
    sym (unaccepted_refused c.args.l c.args.list.now (λ a. omega arith))

pub count_changes-requires : goal.count_changes-requires
unfolding pair_count
count_changes-requires c = (c.u16_at-pairs.ensures, omega arith, omega arith)

pub returns-in_err-changes : goal.returns-in_err-changes
returns-in_err-changes c =
    let l = c.args.l in
    let b = c.args.list.now in
    let u = unfit_counted l b (sym c.in_err-changes.ensures) in
    rw c.from_residual.ensures (sym (unaccepted_refused l b (λ a. not_both (pairs_fit l 0 (pairs b)) a.fit u)))

pub overflow_mul-changes : goal.overflow_mul-changes
overflow_mul-changes c =
    omega (arith, counted-within _ _ _ (sym c.in_ok-changes.ensures))

pub overflow_add-prints_from-2 : goal.overflow_add-prints_from-2
overflow_add-prints_from-2 c =
    omega (arith, counted-within _ _ _ (sym c.in_ok-changes.ensures))

pub returns-then-list-prints_from-2 : goal.returns-then-list-prints_from-2
unfolding list_size pair_count
returns-then-list-prints_from-2 c =
    let f = fit-counted _ _ _ (sym c.in_ok-changes.ensures) in
    sym (unaccepted_refused _ _ (λ a. omega arith))

pub overflow_cast-result : goal.overflow_cast-result
overflow_cast-result c =
    omega (arith, counted-within _ _ _ (sym c.in_ok-changes.ensures))

pub returns : goal.returns
unfolding list_size pair_count
returns c =
    let f = fit-counted _ _ _ (sym c.in_ok-changes.ensures) in
    sym (accepted-good _ _ c.u16_at-pairs.result c.in_ok-changes.changes
    (record { long = omega arith; fit = f.0; size = omega arith }) (omega arith) f.1)
