-- `convert::convert_2_1`: each way out is one of the definition.
use mathlib.Core.Bool.{not, true}
use mathlib.Core.Path.{ap, ◌≡◌, refl}
use native.Mathlib.Omega.{arith}
use Rattle.std.proofs.lemmas.Result.{err_from_is_err_and}
use Rattle.book.proofs.FormFactLaws.{facts_as}
use Rattle.book.specs.FormFacts.{FormFactsAs}
use Rattle.words.proofs.ChoiceLaws.{failed, passed}
use Rattle.words.specs.Lists.{all}
use Rattle.book.specs.Layout.{book_of}
use Rattle.model.specs.Convert.{is_narrow, narrow_number, to_one}
use Rattle.convert.proofs.Exits.{size-facts, not_sized, asked, done, too_wide, narrow_enough}
use Rattle.convert.proofs.convert_2_1.Goals as goal

pub returns-in_err-room_for : goal.returns-in_err-room_for
unfolding to_one
returns-in_err-room_for c =
    let p = err_from_is_err_and c.from_residual.result c.from_residual.ensures.1 in
    rw (p.1, p.2) (not_sized 2 1 narrow_number (λ x. x) _ _ _ c.in_err-room_for.ensures)

pub returns-then-not-all_narrow : goal.returns-then-not-all_narrow
unfolding to_one
returns-then-not-all_narrow c =
    asked 2 1 narrow_number (λ x. x) _ _ c.in_ok-room_for.ensures (too_wide _ (failed c.all_narrow.ensures (ap not c.if-not-all_narrow.true)))
    (λ e. omega arith)

pub all_narrow-requires : goal.all_narrow-requires
all_narrow-requires c =
    let s = size-facts 2 1 _ _ c.in_ok-room_for.ensures in
    (facts_as 2 _ (λ i. (c.type_inv.book i).fits) s.form).holds

pub rewrite-requires : goal.rewrite-requires
unfolding book_of
rewrite-requires c =
    let s = size-facts 2 1 _ _ c.in_ok-room_for.ensures in
    let facts : FormFactsAs 2 c.args.book.now = facts_as 2 _ (λ i. (c.type_inv.book i).fits) s.form in
    let narrow : all is_narrow (book_of c.args.book.now).entries ≡ true = passed c.all_narrow.ensures (ap not c.if-not-all_narrow.false) in
    record { form_facts_as = facts; book_value = (λ e. narrow); book_in_bounds = omega (arith, s.size, s.room) }

pub returns : goal.returns
unfolding to_one
returns c =
    let narrow : all is_narrow (book_of c.args.book.now).entries ≡ true = passed c.all_narrow.ensures (ap not c.if-not-all_narrow.false) in
    done 2 1 narrow_number (λ x. x) _ _ c.in_ok-room_for.ensures refl (narrow_enough _ narrow) c.rewrite.ensures
