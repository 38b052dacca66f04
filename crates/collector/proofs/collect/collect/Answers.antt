-- `collector::collect::collect` meets its contract: each way out is one of the definition.
use mathlib.Core.Path.{refl, sym}
use native.Mathlib.Omega.{arith}
use Rattle.std.proofs.Common.{rules}
use Rattle.std.proofs.lemmas.Result.{err_from_is_err_and}
use Rattle.book.proofs.FormBytes.{holds-form}
use Rattle.collector.proofs.CollectExits.{collect_misformed, collect-late, collect-early, collect-done}
use Rattle.collector.proofs.collect.collect.Goals as goal

pub returns-in_err-check : goal.returns-in_err-check
returns-in_err-check c =
    let p = err_from_is_err_and c.from_residual.result c.from_residual.ensures.1 in
    rw (p.1, p.2) (collect_misformed _ _ refl _ c.in_err-check.ensures)

pub returns-then-day-gt-MAX_DAY : goal.returns-then-day-gt-MAX_DAY
returns-then-day-gt-MAX_DAY c = collect-late _ _ refl (sym c.in_ok-check.ensures) (omega arith)

pub day-today-requires : goal.day-today-requires
day-today-requires c = holds-form _ (λ i. search rules) (sym c.in_ok-check.ensures)

pub returns-then-day-today : goal.returns-then-day-today
returns-then-day-today c = collect-early _ _ refl (sym c.in_ok-check.ensures) (omega arith)

pub sweep-freed-requires : goal.sweep-freed-requires
sweep-freed-requires c = holds-form _ (λ i. search rules) (sym c.in_ok-check.ensures)

pub returns : goal.returns
returns c =
    let done = c.sweep-freed.ensures in
    collect-done _ _ (sym c.in_ok-check.ensures) (omega arith) (omega arith) done.value done.is c.set_day.ensures
