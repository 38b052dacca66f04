use Prim.Native.Nat.{ℕ, ◌+◌, ◌-◌, ◌≤◌, ◌<◌}
use mathlib.Core.Path.{◌≡◌, ap, ◌∙◌}
use native.Mathlib.Nat.{add-sub_cancel_left}
use native.Mathlib.Omega.{arith}
use lib.ListN.{length, take, drop}
use Rattle.words.proofs.Parts.{length_part}
use Rattle.book.specs.Layout.{count_size, entry_size, book_of}
use Rattle.book.proofs.Read.{n-at}
use Rattle.rewriter.proofs.Storing.{entered-room, entered-more, entered_all, entry-inside, count-byte}
use Rattle.rewriter.proofs.Storing.{entry-taken}
use Rattle.rewriter.proofs.put_entries.Goals as goal

pub count_in-count-requires : goal.count_in-count-requires
count_in-count-requires c =
    let below : c.loop.counter < (book_of c.args.book.now).sizes.n = omega (arith, n-at c.args.book.now, c.u16_at-n.ensures) in
    let inside : c.loop.taken + (c.count_size-width.result + 19) ≤ length c.args.book.now =
    let a = c.args in
    omega (
      arith,
      entry-inside a.from a.to a.book.now c.requires.form_facts_as (λ i. (c.type_inv.book i).fits) below c.loop.invariant.place,
      c.count_size-width.ensures.0,
    )
    in
    let h = inside in omega (arith, h, c.count_size-width.ensures.0)

pub slice_bounds-put_entry-end : goal.slice_bounds-put_entry-end
slice_bounds-put_entry-end c =
    let below : c.loop.counter < (book_of c.args.book.now).sizes.n = omega (arith, n-at c.args.book.now, c.u16_at-n.ensures) in
    let inside : c.loop.taken + (c.count_size-width.result + 19) ≤ length c.args.book.now =
    let a = c.args in
    omega (
      arith,
      entry-inside a.from a.to a.book.now c.requires.form_facts_as (λ i. (c.type_inv.book i).fits) below c.loop.invariant.place,
      c.count_size-width.ensures.0,
    )
    in
    let h = inside in omega (arith, h)

pub put_entry-at-requires : goal.put_entry-at-requires
put_entry-at-requires c =
    let below : c.loop.counter < (book_of c.args.book.now).sizes.n = omega (arith, n-at c.args.book.now, c.u16_at-n.ensures) in
    let inside : c.loop.taken + (c.count_size-width.result + 19) ≤ length c.args.book.now =
    let a = c.args in
    omega (
      arith,
      entry-inside a.from a.to a.book.now c.requires.form_facts_as (λ i. (c.type_inv.book i).fits) below c.loop.invariant.place,
      c.count_size-width.ensures.0,
    )
    in
    let a = c.args in
    let b = a.book.now in
    let rest = c.loop.taken + c.count_size-width.result in
    let long : length (take (rest + 19 - rest) (drop rest b)) ≡ 19 =
    ap (λ (m : ℕ). length (take m (drop rest b))) (add-sub_cancel_left rest 19) ∙ length_part b rest 19 (omega (arith, inside))
    in
    record {
      count_bound = (
        (λ e. count-byte a.from a.to b c.requires.form_facts_as (λ i. (c.type_inv.book i).fits) below c.loop.invariant.place c.count_in-count.ensures
            (c.requires.book_value e)),
        long,
      );
      layout_in_bounds = entered-room a.from a.to (book_of b) c.requires.form_facts_as.holds.sized c.loop.invariant below;
    }

pub loop-preserved : goal.loop-preserved
unfolding entry_size
loop-preserved c =
    let below : c.loop.counter < (book_of c.args.book.now).sizes.n = omega (arith, n-at c.args.book.now, c.u16_at-n.ensures) in
    let past : c.loop.taken + c.count_size-width.result + 19 ≡ c.loop.taken + entry_size c.args.from = omega (arith, c.count_size-width.ensures.0) in
    let a = c.args in
    let b = a.book.now in
    let rest = c.loop.taken + c.count_size-width.result in
    let width = c.count_size-width.ensures.0 in
    let part : take (rest + 19 - rest) (drop rest b) ≡ take 19 (drop (c.loop.taken + count_size a.from) b) =
    (λ i. take (add-sub_cancel_left rest 19 i) (drop (c.loop.taken + width i) b))
    in
    entered-more a.from a.to (book_of b) c.requires.form_facts_as.holds.sized c.loop.invariant below past
    (entry-taken a.from a.to b c.requires.form_facts_as (λ i. (c.type_inv.book i).fits) below c.loop.invariant.place c.count_in-count.ensures part
    c.put_entry-at.ensures)

pub returns : goal.returns
returns c =
    entered_all c.args.from c.args.to (book_of c.args.book.now) c.requires.form_facts_as.holds.sized c.loop.invariant
    (omega (arith, n-at c.args.book.now, c.u16_at-n.ensures))
