-- `convert::convert_2_3`: each way out is one of the definition.
use mathlib.Core.Path.{refl, sym}
use native.Mathlib.Omega.{arith}
use Rattle.std.proofs.lemmas.List.{length-take-le}
use Rattle.std.proofs.lemmas.Result.{err_from_is_err_and}
use Rattle.book.proofs.FormFactLaws.{facts_as}
use Rattle.book.specs.FormFacts.{FormFactsAs}
use Rattle.book.specs.Layout.{book_of}
use Rattle.book.specs.Next.{with_entries}
use Rattle.model.specs.Convert.{refreshed, to_three}
use Rattle.convert.proofs.Exits.{size-facts, not_sized, done}
use Rattle.convert.proofs.Renewing.{front-is, front-parts, renewed}
use Rattle.convert.proofs.convert_2_3.Goals as goal

pub returns-in_err-len : goal.returns-in_err-len
unfolding to_three
returns-in_err-len c =
    let p = err_from_is_err_and c.from_residual.result c.from_residual.ensures.1 in
    rw (p.1, p.2) (not_sized 2 3 (λ x. 0) refreshed _ _ _ c.in_err-len.ensures)

pub rewrite-requires : goal.rewrite-requires
unfolding book_of
rewrite-requires c =
    let s = size-facts 2 3 _ _ c.in_ok-len.ensures in
    let facts : FormFactsAs 2 c.args.book.now = facts_as 2 _ (λ i. (c.type_inv.book i).fits) s.form in
    record { form_facts_as = facts; book_value = (λ e. absurd (omega arith)); book_in_bounds = omega (arith, s.size, s.room) }

pub slice_bounds-refresh-end : goal.slice_bounds-refresh-end
slice_bounds-refresh-end c = omega (arith, (size-facts 2 3 _ _ c.in_ok-len.ensures).room, c.rewrite.auto.out)

pub slice_bounds-refresh-end-2 : goal.slice_bounds-refresh-end-2
slice_bounds-refresh-end-2 c =
    let s = size-facts 2 3 _ _ c.in_ok-len.ensures in
    sym (length-take-le _ _ (omega (arith, s.room, c.rewrite.auto.out)))

pub refresh-requires : goal.refresh-requires
refresh-requires c =
    let s = size-facts 2 3 _ _ c.in_ok-len.ensures in
    let f : FormFactsAs 2 c.args.book.now = facts_as 2 _ (λ i. (c.type_inv.book i).fits) s.form in
    ((front-is _ _ f s.size s.room c.rewrite.ensures).holds, front-parts _ _ f s.size s.room c.rewrite.ensures)

pub returns : goal.returns
unfolding refreshed to_three with_entries
returns c =
    let s = size-facts 2 3 _ _ c.in_ok-len.ensures in
    let f : FormFactsAs 2 c.args.book.now = facts_as 2 _ (λ i. (c.type_inv.book i).fits) s.form in
    done 2 3 (λ x. 0) refreshed _ _ c.in_ok-len.ensures refl refl
    (renewed _ _ f s.size s.room c.rewrite.ensures c.refresh.ensures refl)
