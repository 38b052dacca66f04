use mathlib.Core.Path.{sym, ◌∙◌}
use native.Mathlib.Omega.{arith}
use Rattle.book.specs.Layout.{book_of}
use Rattle.retirer.proofs.ClearLaws.{mapped_start, mapped_end, mapped_none, mapped_one}
use Rattle.retirer.proofs.clearing.mapped_cells.Goals as goal
use Rattle.retirer.proofs.clearing.mapped_cells.Goals.{then-p, else-p}

pub loop-lbn-init : goal.loop-lbn-init
loop-lbn-init c =
    let a = c.args in
    (omega arith, omega (arith, mapped_start (book_of a.book.now) a.v))

pub loop-lbn-preserved : goal.loop-lbn-preserved
loop-lbn-preserved c =
    let l = c.loop-lbn in
    let x = book_of c.args.book.now in
    let v = c.args.v in
    let row = c.requires.holds.sized.cells v c.requires.v_lt_volumes in
    elim c.if-p.branch [
      | then-p w ↦ (
        omega (arith, w.count-is, l.invariant.0),
        omega (
          arith,
          w.count-is,
          l.invariant.1,
          mapped_one x v l.lbn (omega arith) (λ e. w.if-p.true (c.cell-p.ensures ∙ e)),
        ),
      )
      | else-p w ↦ (
        omega (arith, w.count-is, l.invariant.0),
        omega (
          arith,
          w.count-is,
          l.invariant.1,
          mapped_none x v l.lbn (omega arith) (sym c.cell-p.ensures ∙ w.if-p.false),
        ),
      )
    ]

pub returns : goal.returns
returns c =
    let l = c.loop-lbn in
    let row = c.requires.holds.sized.cells c.args.v c.requires.v_lt_volumes in
    omega (arith, l.invariant.1, mapped_end (book_of c.args.book.now) c.args.v l.lbn (omega arith))
