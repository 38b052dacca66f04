use Prim.Native.Nat.{ℕ, ◌+◌}
use mathlib.Core.Path.{sym, ap, ◌∙◌}
use native.Mathlib.Omega.{arith}
use Rattle.std.specs.Prelude.{Some}
use Rattle.book.specs.Layout.{told}
use Rattle.restorer.proofs.BeforeLaws.{span-whole, span-here, span-next, span_none}
use Rattle.restorer.proofs.image.first_before.Goals as goal

pub returns-then-record-lbn : goal.returns-then-record-lbn
returns-then-record-lbn c =
    let l = c.loop-q in
    let a = c.args in
    let rs = (told a.book).records in
    let its = sym c.record_at-record.ensures.lbn ∙ c.if-record-lbn.true in
    let here = span-here a.lbn.0 rs l.q (a.first + a.number) (omega arith) (omega arith) its in
    let whole = span-whole a.lbn.0 a.first a.number rs in
    ap (λ (n : ℕ). Some (record { 0 = n })) c.record_at-record.ensures.before ∙ sym (sym whole ∙ l.invariant ∙ here)

pub loop-q-preserved : goal.loop-q-preserved
loop-q-preserved c =
    let l = c.loop-q in
    let a = c.args in
    let rs = (told a.book).records in
    let next =
    span-next a.lbn.0 rs l.q (a.first + a.number) (omega arith) (omega arith)
    (λ e. c.if-record-lbn.false (c.record_at-record.ensures.lbn ∙ e))
    in
    l.invariant ∙ next

pub returns : goal.returns
returns c =
    let l = c.loop-q in
    let a = c.args in
    let rs = (told a.book).records in
    let whole = span-whole a.lbn.0 a.first a.number rs in
    sym (sym whole ∙ l.invariant ∙ span_none a.lbn.0 rs l.q (a.first + a.number) (omega arith))
