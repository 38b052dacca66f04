-- `write_list`: the refusals 19 and 20, and the list.
use mathlib.Core.Path.{ap, ◌≡◌, refl}
use mathlib.Core.Bool.{not, true}
use lib.ListN.{length}
use native.Mathlib.Omega.{arith}
use Rattle.words.proofs.ChoiceLaws.{failed, passed}
use Rattle.runs.specs.Writer.{input_ok, marked_list}
use Rattle.writer.proofs.Lengths.{length-list}
use Rattle.writer.proofs.Whole.{Fit, input_fits, wrote_none, wrote-short, wrote-list}
use Rattle.writer.proofs.write_list.Goals as goal

pub returns-then-not-input_ok : goal.returns-then-not-input_ok
returns-then-not-input_ok c = wrote_none _ _ _ _ _ refl (failed c.input_ok.ensures (ap not c.if-not-input_ok.true))

pub count_marks-t-requires : goal.count_marks-t-requires
count_marks-t-requires c =
    let accepted : (let a = c.args in input_ok a.l a.marks.now a.prints.now a.image.now ≡ true) = passed c.input_ok.ensures (ap not c.if-not-input_ok.false) in
    let fit : (let a = c.args in Fit a.marks.now a.prints.now a.image.now) = input_fits _ _ _ _ accepted in
    fit.most

pub returns-then-list-size : goal.returns-then-list-size
returns-then-list-size c =
    let accepted : (let a = c.args in input_ok a.l a.marks.now a.prints.now a.image.now ≡ true) = passed c.input_ok.ensures (ap not c.if-not-input_ok.false) in
    let fit : (let a = c.args in Fit a.marks.now a.prints.now a.image.now) = input_fits _ _ _ _ accepted in
    let long : (let a = c.args in
    c.list_len-size.result ≡ length (marked_list a.marks.now a.prints.now a.image.now)) =
    let a = c.args in
    let f = fit in
    let n = c.count_marks-t.ensures in
    let e = length-list a.prints.now a.image.now a.marks.now f.prints f.image in
    omega (arith, c.list_len-size.ensures, n.runs, n.changes, e)
    in
    wrote-short _ _ _ _ _ refl accepted
    (omega (arith, c.if-list-size.true, long))

pub put_list-requires : goal.put_list-requires
put_list-requires c =
    let accepted : (let a = c.args in input_ok a.l a.marks.now a.prints.now a.image.now ≡ true) = passed c.input_ok.ensures (ap not c.if-not-input_ok.false) in
    let fit : (let a = c.args in Fit a.marks.now a.prints.now a.image.now) = input_fits _ _ _ _ accepted in
    let long : (let a = c.args in
    c.list_len-size.result ≡ length (marked_list a.marks.now a.prints.now a.image.now)) =
    let a = c.args in
    let f = fit in
    let n = c.count_marks-t.ensures in
    let e = length-list a.prints.now a.image.now a.marks.now f.prints f.image in
    omega (arith, c.list_len-size.ensures, n.runs, n.changes, e)
    in
    let f = fit in
    record {
      runs = c.count_marks-t.ensures.runs;
      most = f.most;
      prints = f.prints;
      image = f.image;
      size = omega (arith, c.if-list-size.false, long);
    }

pub returns : goal.returns
returns c =
    let accepted : (let a = c.args in input_ok a.l a.marks.now a.prints.now a.image.now ≡ true) = passed c.input_ok.ensures (ap not c.if-not-input_ok.false) in
    let fit : (let a = c.args in Fit a.marks.now a.prints.now a.image.now) = input_fits _ _ _ _ accepted in
    let long : (let a = c.args in
    c.list_len-size.result ≡ length (marked_list a.marks.now a.prints.now a.image.now)) =
    let a = c.args in
    let f = fit in
    let n = c.count_marks-t.ensures in
    let e = length-list a.prints.now a.image.now a.marks.now f.prints f.image in
    omega (arith, c.list_len-size.ensures, n.runs, n.changes, e)
    in
    wrote-list _ _ _ _ _ accepted (omega (arith, c.if-list-size.false, long))
    c.put_list.ensures long
