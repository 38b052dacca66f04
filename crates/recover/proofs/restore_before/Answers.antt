-- `recover::restore_before` meets its contract: numbers 21 and 18, and the copy of a run that is known to be mapped.
use mathlib.Core.Bool.{not}
use Prim.Native.Nat.{ℕ, ◌+◌, ◌≤◌}
use mathlib.Core.Path.{ap, ◌≡◌, sym}
use native.Mathlib.Omega.{arith}
use lib.ListN.{length}
use Rattle.std.proofs.lemmas.Result.{err_from_is_err_and}
use Rattle.words.proofs.ChoiceLaws.{failed, passed}
use Rattle.words.proofs.Refused.{number-not_zero}
use Rattle.book.specs.Layout.{told}
use Rattle.model.specs.Restore.{run_number}
use Rattle.claims.proofs.kept.RestoreLaws.{run_inside}
use Rattle.recover.proofs.RunningLaws.{number_of}
use Rattle.recover.proofs.Exits.{before-refused, before-gone, before-inside, before-done}
use Rattle.recover.proofs.restore_before.Goals as goal

pub returns-in_err-check_run : goal.returns-in_err-check_run
returns-in_err-check_run c =
    let p = err_from_is_err_and c.from_residual.result c.from_residual.ensures.1 in
    rw (p.1, p.2)
    (before-refused _ _ _ _ _ _ _ (number_of _ _ c.in_err-check_run.ensures c.cells.ensures (omega arith)) (number-not_zero _))

pub overflow_add-end : goal.overflow_add-end
overflow_add-end c =
    let number : ℕ = run_number (told c.args.book).sizes.l c.args.first c.args.many (length c.args.out.now) in
    let none : number ≡ 0 = sym (number_of _ _ c.in_ok-check_run.ensures c.cells.ensures (omega arith)) in
    let within : (c.args.first + c.args.many ≤ 1024) =
    omega (
      arith,
      (run_inside (told c.args.book).sizes.l c.args.first c.args.many (length c.args.out.now) none).0,
      c.requires.form_facts.holds.l,
    )
    in
    omega (arith, within)

pub all_mapped-requires : goal.all_mapped-requires
all_mapped-requires c =
    let number : ℕ = run_number (told c.args.book).sizes.l c.args.first c.args.many (length c.args.out.now) in
    let none : number ≡ 0 = sym (number_of _ _ c.in_ok-check_run.ensures c.cells.ensures (omega arith)) in
    let within : (c.args.first + c.args.many ≤ 1024) =
    omega (
      arith,
      (run_inside (told c.args.book).sizes.l c.args.first c.args.many (length c.args.out.now) none).0,
      c.requires.form_facts.holds.l,
    )
    in
    (omega arith, within)

pub returns-then-not-all_mapped : goal.returns-then-not-all_mapped
returns-then-not-all_mapped c =
    let number : ℕ = run_number (told c.args.book).sizes.l c.args.first c.args.many (length c.args.out.now) in
    let none : number ≡ 0 = sym (number_of _ _ c.in_ok-check_run.ensures c.cells.ensures (omega arith)) in
    before-gone _ _ _ _ _ _ _ c.image_of.ensures none (failed c.all_mapped.ensures (ap not c.if-not-all_mapped.true))

pub copy_run-requires : goal.copy_run-requires
copy_run-requires c =
    let number : ℕ = run_number (told c.args.book).sizes.l c.args.first c.args.many (length c.args.out.now) in
    let none : number ≡ 0 = sym (number_of _ _ c.in_ok-check_run.ensures c.cells.ensures (omega arith)) in
    before-inside _ _ _ _ _ _ c.args.out.now c.image_of.ensures none c.requires.form_facts.parts c.requires.volume_lt_volumes.1
    (passed c.all_mapped.ensures (ap not c.if-not-all_mapped.false)) c.requires.form_facts.holds.l

pub returns : goal.returns
returns c =
    let number : ℕ = run_number (told c.args.book).sizes.l c.args.first c.args.many (length c.args.out.now) in
    let none : number ≡ 0 = sym (number_of _ _ c.in_ok-check_run.ensures c.cells.ensures (omega arith)) in
    before-done _ _ _ _ _ _ _ c.image_of.ensures none c.requires.form_facts.parts c.requires.volume_lt_volumes.1
    (passed c.all_mapped.ensures (ap not c.if-not-all_mapped.false)) c.copy_run.ensures
