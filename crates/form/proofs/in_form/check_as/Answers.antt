-- `form::in_form::check_as` meets its contract: each way out decides the sections' tests, which are those defined.
use mathlib.Core.Path.{ap, ◌≡◌, sym}
use mathlib.Core.Bool.{not, true}
use Rattle.words.proofs.ChoiceLaws.{failed, passed}
use Rattle.book.specs.Form.{layout_as}
use Rattle.book.proofs.FormNumber.{number_1, layout-facts}
use Rattle.sections.specs.Checks.{head_ok}
use Rattle.sections.proofs.CheckLaws.{head-facts}
use Rattle.form.specs.Passes.{blocks_ok, slots_ok}
use Rattle.form.proofs.PassLaws.{out-of-form, in_form}
use Rattle.form.proofs.in_form.check_as.Goals as goal

pub returns-then-not-layout_ok : goal.returns-then-not-layout_ok
returns-then-not-layout_ok c = sym (number_1 _ _ (failed c.layout_ok.ensures (ap not c.if-not-layout_ok.true)))

pub head_ok-requires : goal.head_ok-requires
head_ok-requires c =
    let laid : layout_as c.args.layout c.args.book.now ≡ true = passed c.layout_ok.ensures (ap not c.if-not-layout_ok.false) in
    (layout-facts _ _ laid).header

pub returns-then-not-head_ok : goal.returns-then-not-head_ok
returns-then-not-head_ok c =
    let laid : layout_as c.args.layout c.args.book.now ≡ true = passed c.layout_ok.ensures (ap not c.if-not-layout_ok.false) in
    let l = laid in
    out-of-form _ (layout-facts _ _ l).len _ l (rw (failed c.head_ok.ensures (ap not c.if-not-head_ok.true)))

pub blocks_ok-requires : goal.blocks_ok-requires
blocks_ok-requires c =
    let laid : layout_as c.args.layout c.args.book.now ≡ true = passed c.layout_ok.ensures (ap not c.if-not-layout_ok.false) in
    layout-facts _ _ laid

pub returns-then-not-blocks_ok : goal.returns-then-not-blocks_ok
returns-then-not-blocks_ok c =
    let laid : layout_as c.args.layout c.args.book.now ≡ true = passed c.layout_ok.ensures (ap not c.if-not-layout_ok.false) in
    let head : head_ok c.args.book.now ≡ true = passed c.head_ok.ensures (ap not c.if-not-head_ok.false) in
    let l = laid in
    out-of-form _ (layout-facts _ _ l).len _ l (rw (head, failed c.blocks_ok.ensures (ap not c.if-not-blocks_ok.true)))

pub slots_ok-requires : goal.slots_ok-requires
slots_ok-requires c =
    let laid : layout_as c.args.layout c.args.book.now ≡ true = passed c.layout_ok.ensures (ap not c.if-not-layout_ok.false) in
    let head : head_ok c.args.book.now ≡ true = passed c.head_ok.ensures (ap not c.if-not-head_ok.false) in
    record { laid = layout-facts _ _ laid; head_in = head-facts _ head }

pub returns-then-not-slots_ok : goal.returns-then-not-slots_ok
returns-then-not-slots_ok c =
    let laid : layout_as c.args.layout c.args.book.now ≡ true = passed c.layout_ok.ensures (ap not c.if-not-layout_ok.false) in
    let head : head_ok c.args.book.now ≡ true = passed c.head_ok.ensures (ap not c.if-not-head_ok.false) in
    let blocks : blocks_ok c.args.book.now ≡ true = passed c.blocks_ok.ensures (ap not c.if-not-blocks_ok.false) in
    let l = laid in
    let no = failed c.slots_ok.ensures (ap not c.if-not-slots_ok.true) in
    out-of-form _ (layout-facts _ _ l).len _ l (rw (head, blocks, no))

pub journal_ok-requires : goal.journal_ok-requires
journal_ok-requires c =
    let laid : layout_as c.args.layout c.args.book.now ≡ true = passed c.layout_ok.ensures (ap not c.if-not-layout_ok.false) in
    let head : head_ok c.args.book.now ≡ true = passed c.head_ok.ensures (ap not c.if-not-head_ok.false) in
    let slots : slots_ok c.args.book.now ≡ true = passed c.slots_ok.ensures (ap not c.if-not-slots_ok.false) in
    record { laid = layout-facts _ _ laid; head_in = (head-facts _ head, slots) }

pub returns-then-not-journal_ok : goal.returns-then-not-journal_ok
returns-then-not-journal_ok c =
    let laid : layout_as c.args.layout c.args.book.now ≡ true = passed c.layout_ok.ensures (ap not c.if-not-layout_ok.false) in
    let head : head_ok c.args.book.now ≡ true = passed c.head_ok.ensures (ap not c.if-not-head_ok.false) in
    let blocks : blocks_ok c.args.book.now ≡ true = passed c.blocks_ok.ensures (ap not c.if-not-blocks_ok.false) in
    let slots : slots_ok c.args.book.now ≡ true = passed c.slots_ok.ensures (ap not c.if-not-slots_ok.false) in
    let l = laid in
    let no = failed c.journal_ok.ensures (ap not c.if-not-journal_ok.true) in
    out-of-form _ (layout-facts _ _ l).len _ l (rw (head, blocks, slots) no)

pub returns : goal.returns
returns c =
    let laid : layout_as c.args.layout c.args.book.now ≡ true = passed c.layout_ok.ensures (ap not c.if-not-layout_ok.false) in
    let head : head_ok c.args.book.now ≡ true = passed c.head_ok.ensures (ap not c.if-not-head_ok.false) in
    let blocks : blocks_ok c.args.book.now ≡ true = passed c.blocks_ok.ensures (ap not c.if-not-blocks_ok.false) in
    let slots : slots_ok c.args.book.now ≡ true = passed c.slots_ok.ensures (ap not c.if-not-slots_ok.false) in
    let l = laid in
    let yes = passed c.journal_ok.ensures (ap not c.if-not-journal_ok.false) in
    in_form _ (layout-facts _ _ l).len _ l (rw (head, blocks, slots) yes)
