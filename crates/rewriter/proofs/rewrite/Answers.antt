-- `rewriter::rewrite`: the four pieces one after the other, by `rewritten`.
use Prim.Native.Nat.{ℕ, ◌+◌, ◌-◌, ◌≤◌}
use mathlib.Core.Path.{◌≡◌, refl, sym, ap, ◌∙◌}
use native.Mathlib.Omega.{arith}
use lib.ListN.{length, take, drop, length-drop}
use lib.Seq.{take-length}
use borrow.Author.Rules.{rules}
use Rattle.words.proofs.Parts.{length_part}
use Rattle.book.proofs.Read.{n-at}
use Rattle.book.specs.Layout.{book_of}
use Rattle.rewriter.proofs.Rewriting.{entries-room, rest-inside, last-room, rewritten}
use Rattle.rewriter.proofs.rewrite.Goals as goal

pub put_entries-at-requires : goal.put_entries-at-requires
put_entries-at-requires c =
    record {
      form_facts_as = c.requires.form_facts_as;
      book_value = c.requires.book_value;
      book_in_bounds = entries-room c.args.from c.args.to c.args.book.now c.requires.form_facts_as _
          (omega (arith, c.requires.book_in_bounds, c.put_bytes.auto.b, c.put_u16.auto.b));
    }

pub slice_bounds-put_bytes-count-2 : goal.slice_bounds-put_bytes-count-2
slice_bounds-put_bytes-count-2 c =
    let blocks : c.u16_at-n.result ≡ (book_of c.args.book.now).sizes.n = c.u16_at-n.ensures ∙ n-at c.args.book.now in
    let rest_in : 36 + c.entries_size-rest.result ≤ length c.args.book.now = rest-inside c.args.from c.args.to c.args.book.now c.requires.form_facts_as blocks c.entries_size-rest.ensures.0 refl in
    let h = rest_in in search (rules, h)

pub slice_bounds-put_bytes-start-2 : goal.slice_bounds-put_bytes-start-2
slice_bounds-put_bytes-start-2 c =
    let blocks : c.u16_at-n.result ≡ (book_of c.args.book.now).sizes.n = c.u16_at-n.ensures ∙ n-at c.args.book.now in
    let rest_in : 36 + c.entries_size-rest.result ≤ length c.args.book.now = rest-inside c.args.from c.args.to c.args.book.now c.requires.form_facts_as blocks c.entries_size-rest.ensures.0 refl in
    let h = rest_in in search (rules, h)

pub put_bytes-requires-2 : goal.put_bytes-requires-2
put_bytes-requires-2 c =
    let blocks : c.u16_at-n.result ≡ (book_of c.args.book.now).sizes.n = c.u16_at-n.ensures ∙ n-at c.args.book.now in
    let rest_in : 36 + c.entries_size-rest.result ≤ length c.args.book.now = rest-inside c.args.from c.args.to c.args.book.now c.requires.form_facts_as blocks c.entries_size-rest.ensures.0 refl in
    let b = c.args.book.now in
    let rest = 36 + c.entries_size-rest.result in
    omega (
      arith,
      last-room c.args.from c.args.to b c.requires.form_facts_as blocks c.entries_size-rest.ensures.0 refl _ c.put_entries-at.result
          c.requires.book_in_bounds c.put_entries-at.ensures.place,
      length_part b rest (length b - rest) (omega (arith, rest_in)),
      c.put_entries-at.auto.out,
      c.put_bytes.auto.b,
      c.put_u16.auto.b,
    )

pub shape_of-out : goal.shape_of-out
shape_of-out c =
    c.put_bytes-2.auto.b ∙ c.put_entries-at.auto.out ∙ c.put_bytes.auto.b ∙ c.put_u16.auto.b

pub returns : goal.returns
returns c =
    let blocks : c.u16_at-n.result ≡ (book_of c.args.book.now).sizes.n = c.u16_at-n.ensures ∙ n-at c.args.book.now in
    let b = c.args.book.now in
    let rest = 36 + c.entries_size-rest.result in
    let last : take (length b - rest) (drop rest b) ≡ drop rest b =
    ap (λ (n : ℕ). take n (drop rest b)) (sym (length-drop rest b)) ∙ take-length (drop rest b)
    in
    rewritten c.args.from c.args.to b c.requires.form_facts_as blocks c.entries_size-rest.ensures.0 refl c.args.out.now
    c.put_u16.ensures refl c.put_bytes.ensures c.put_entries-at.ensures last c.put_bytes-2.ensures
