-- `convert::convert_1_2`: each way out is one of the definition.
use mathlib.Core.Path.{refl}
use native.Mathlib.Omega.{arith}
use Rattle.std.proofs.lemmas.Result.{err_from_is_err_and}
use Rattle.book.proofs.FormFactLaws.{facts_as}
use Rattle.book.specs.FormFacts.{FormFactsAs}
use Rattle.book.specs.Layout.{book_of}
use Rattle.model.specs.Convert.{to_two}
use Rattle.convert.proofs.Exits.{size-facts, not_sized, done}
use Rattle.convert.proofs.convert_1_2.Goals as goal

pub returns-in_err-room_for : goal.returns-in_err-room_for
unfolding to_two
returns-in_err-room_for c =
    let p = err_from_is_err_and c.from_residual.result c.from_residual.ensures.1 in
    rw (p.1, p.2) (not_sized 1 2 (λ x. 0) (λ x. x) _ _ _ c.in_err-room_for.ensures)

pub rewrite-requires : goal.rewrite-requires
unfolding book_of
rewrite-requires c =
    let s = size-facts 1 2 _ _ c.in_ok-room_for.ensures in
    let facts : FormFactsAs 1 c.args.book.now = facts_as 1 _ (λ i. (c.type_inv.book i).fits) s.form in
    record { form_facts_as = facts; book_value = (λ e. absurd (omega arith)); book_in_bounds = omega (arith, s.size, s.room) }

pub returns : goal.returns
unfolding to_two
returns c = done 1 2 (λ x. 0) (λ x. x) _ _ c.in_ok-room_for.ensures refl refl c.rewrite.ensures
