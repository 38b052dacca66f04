-- `tally`: a book in form holds its book, and its page has room.
use Prim.Native.Nat.{◌≤◌}
use mathlib.Core.Path.{◌≡◌, sym, ◌∙◌}
use native.Mathlib.Nat.{zero-add}
use native.Mathlib.Omega.{arith}
use lib.ListN.{length}
use Rattle.words.proofs.Refused.{number-not_zero}
use Rattle.words.specs.Refusals.{number}
use Rattle.book.specs.Layout.{Holds}
use Rattle.pages.specs.Pages.{counts_page, page_room}
use Rattle.pages.specs.Tally.{tally_number}
use Rattle.pages.proofs.PageLaws.{number_small, refused_page, counted_page, refused-fits, counts-fit, written}
use Rattle.pages.proofs.PageLaws.{accepted-holds}
use Rattle.pages.proofs.tally.Goals as goal

pub put_line-requires : goal.put_line-requires
put_line-requires c =
    let number : c.from-in-Err.result ≡ tally_number c.args.input.now = c.from-in-Err.ensures ∙ c.from.ensures ∙ c.in-Err.ensures in
    rw (c.told-page, zero-add) (refused-fits _ (omega (arith, number_small c.args.input.now, number)))

pub returns-in-Err : goal.returns-in-Err
returns-in-Err c =
    let b = c.args.input.now in
    let told : tally_number b ≡ number c.in-Err.refusal = sym c.in-Err.ensures in
    let some = number-not_zero c.in-Err.refusal in
    let fits = refused-fits _ (omega (arith, number_small b, told)) in
    let page = refused_page b (omega (arith, told)) (λ z. some (omega (arith, z))) in
    let h = written c.told-page fits page c.put_line.ensures in
    record { page_after = h.0; value = h.1.0; upper_bound = h.1.1 }

pub blocks-n-requires : goal.blocks-n-requires
blocks-n-requires c = accepted-holds _ (λ i. (c.type_inv.input i).fits) (sym c.in_default.ensures)

pub count_entries-requires : goal.count_entries-requires
count_entries-requires c = accepted-holds _ (λ i. (c.type_inv.input i).fits) (sym c.in_default.ensures)

pub put_counts-requires : goal.put_counts-requires
put_counts-requires c =
    let holds : Holds c.args.input.now = accepted-holds _ (λ i. (c.type_inv.input i).fits) (sym c.in_default.ensures) in
    let fits : length (counts_page c.blocks-n.result c.count_entries.result) ≤ page_room = counts-fit _ _ (omega (arith, c.blocks-n.ensures, holds.n)) c.count_entries.ensures.1 in
    omega (arith, fits, c.told-page)

pub returns : goal.returns
returns c =
    let holds : Holds c.args.input.now = accepted-holds _ (λ i. (c.type_inv.input i).fits) (sym c.in_default.ensures) in
    let fits : length (counts_page c.blocks-n.result c.count_entries.result) ≤ page_room = counts-fit _ _ (omega (arith, c.blocks-n.ensures, holds.n)) c.count_entries.ensures.1 in
    let page = counted_page c.args.input.now (sym c.in_default.ensures) c.blocks-n.ensures c.count_entries.ensures.0 in
    let h = written c.told-page fits page c.put_counts.ensures in
    record { page_after = h.0; value = h.1.0; upper_bound = h.1.1 }
