-- `input_ok`: the tests of `input_ok` in their order.
use borrow.Author.Tests.{le-leb, lt-leb, eq-eqb, ne_eqb}
use Rattle.runs.specs.Writer.{input_ok}
use Rattle.writer.proofs.input_ok.Goals as goal

pub returns-then-l-lt1 : goal.returns-then-l-lt1
unfolding input_ok
returns-then-l-lt1 c = rw (lt-leb 1 _ c.if-l-lt1.true)

pub returns-then-l : goal.returns-then-l
unfolding input_ok
returns-then-l c = rw (le-leb 1 _ c.if-l-lt1.false, lt-leb _ 1024 c.if-l.true)

pub returns-then-marks-n : goal.returns-then-marks-n
unfolding input_ok
returns-then-marks-n c =
    rw (le-leb 1 _ c.if-l-lt1.false, le-leb _ 1024 c.if-l.false, ne_eqb _ _ c.if-marks-n.true)

pub returns-then-prints-n : goal.returns-then-prints-n
unfolding input_ok
returns-then-prints-n c =
    rw (
      le-leb 1 _ c.if-l-lt1.false,
      le-leb _ 1024 c.if-l.false,
      eq-eqb _ _ c.if-marks-n.false,
      ne_eqb _ _ c.if-prints-n.true,
    )

pub returns-then-image-n : goal.returns-then-image-n
unfolding input_ok
returns-then-image-n c =
    rw (
      le-leb 1 _ c.if-l-lt1.false,
      le-leb _ 1024 c.if-l.false,
      eq-eqb _ _ c.if-marks-n.false,
      eq-eqb _ _ c.if-prints-n.false,
      ne_eqb _ _ c.if-image-n.true,
    )

pub returns : goal.returns
unfolding input_ok
returns c =
    rw (
      le-leb 1 _ c.if-l-lt1.false,
      le-leb _ 1024 c.if-l.false,
      eq-eqb _ _ c.if-marks-n.false,
      eq-eqb _ _ c.if-prints-n.false,
      eq-eqb _ _ c.if-image-n.false,
    )
    c.marks_ok.ensures
