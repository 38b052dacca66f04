use Prim.Native.Nat.{◌<◌}
use mathlib.Core.Path.{◌≡◌, refl, sym, ap, ◌∙◌}
use native.Mathlib.Omega.{arith}
use borrow.Author.Rules.{rules}
use lib.ListN.{length}
use Rattle.words.specs.Blocks.{print_size}
use Rattle.book.specs.Layout.{book_of}
use Rattle.finder.proofs.FarEndLaws.{all-agree, one_differs}
use Rattle.finder.proofs.FindingLaws.{chain-up, chain_more, search_more, search_stop, search_end}
use Rattle.finder.proofs.finding.search.Goals as goal

pub loop-q-init : goal.loop-q-init
loop-q-init c = (c.requires.chain, refl)

pub print_of-own-requires : goal.print_of-own-requires
print_of-own-requires c =
    record { holds = c.requires.holds; p_bound = search rules }

pub agreeing-requires : goal.agreeing-requires
agreeing-requires c =
    let long : length c.print_of-own.result.now ≡ print_size =
    let sized = c.requires.holds.sized.prints c.loop-q.q in
    ap length c.print_of-own.ensures ∙ sized (omega arith)
    in
    (long, c.requires.print_len)

pub returns-then-agreeing-eq-PRINT_SIZE : goal.returns-then-agreeing-eq-PRINT_SIZE
returns-then-agreeing-eq-PRINT_SIZE c =
    let inside : c.loop-q.q < length (book_of c.args.book.now).entries = omega (arith, c.requires.holds.sized.entries) in
    let long : length c.print_of-own.result.now ≡ print_size =
    let sized = c.requires.holds.sized.prints c.loop-q.q in
    ap length c.print_of-own.ensures ∙ sized (omega arith)
    in
    let l = c.loop-q in
    sym (l.invariant.1 ∙ search_stop _ c.args.print.now _ l.q l.invariant.0 inside
    (rw c.print_of-own.ensures
    at (all-agree _ _ long c.requires.print_len c.agreeing.ensures (omega (arith, c.if-agreeing-eq-PRINT_SIZE.true)))))

pub loop-q-smaller : goal.loop-q-smaller
loop-q-smaller c =
    let inside : c.loop-q.q < length (book_of c.args.book.now).entries = omega (arith, c.requires.holds.sized.entries) in
    let l = c.loop-q in
    omega (arith, chain-up _ _ _ l.q l.invariant.0 inside)

pub loop-q-preserved : goal.loop-q-preserved
loop-q-preserved c =
    let inside : c.loop-q.q < length (book_of c.args.book.now).entries = omega (arith, c.requires.holds.sized.entries) in
    let long : length c.print_of-own.result.now ≡ print_size =
    let sized = c.requires.holds.sized.prints c.loop-q.q in
    ap length c.print_of-own.ensures ∙ sized (omega arith)
    in
    let l = c.loop-q in
    let k = c.agreeing.ensures in (
      chain_more _ _ _ l.q l.invariant.0 inside,
      l.invariant.1 ∙ search_more _ c.args.print.now _ l.q l.invariant.0 inside
          (rw c.print_of-own.ensures
          at (one_differs _ _ long c.requires.print_len k (λ z. omega (arith, c.if-agreeing-eq-PRINT_SIZE.false, z)))),
    )

pub returns : goal.returns
returns c =
    let l = c.loop-q in
    sym (l.invariant.1 ∙ search_end _ c.args.print.now _ l.q l.invariant.0 (omega (arith, c.requires.holds.sized.entries)))
