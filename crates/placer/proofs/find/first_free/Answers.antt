use mathlib.Core.Bool.{not}
use mathlib.Core.Path.{ap, sym, ◌∙◌}
use native.Mathlib.Omega.{arith}
use Rattle.words.proofs.ChoiceLaws.{failed, passed}
use Rattle.book.specs.Book.{free_entry, is_free}
use Rattle.book.specs.Layout.{book_of}
use Rattle.finder.specs.Answers.{found_of}
use Rattle.placer.proofs.SearchLaws.{place-stop, place-more, place_end}
use Rattle.placer.proofs.find.first_free.Goals as goal

pub returns-then-not-is_held : goal.returns-then-not-is_held
returns-then-not-is_held c =
    let a = c.args in
    let g = c.requires in
    let l = c.loop-p in
    let free = c.if-not-is_held.true in
    let e = g.holds.sized.entries in
    sym (ap found_of (l.invariant ∙ place-stop is_free (book_of a.book.now).entries free_entry l.p a.to
    c.loop-p-test.true (omega arith) (rw (failed c.is_held.ensures (ap not free)))))

pub loop-p-preserved : goal.loop-p-preserved
loop-p-preserved c =
    let a = c.args in
    let g = c.requires in
    let l = c.loop-p in
    let e = g.holds.sized.entries in
    l.invariant ∙ place-more is_free (book_of a.book.now).entries free_entry l.p a.to
    c.loop-p-test.true (omega arith)
    (rw (passed c.is_held.ensures (ap not c.if-not-is_held.false)))

pub returns : goal.returns
returns c =
    let a = c.args in
    let l = c.loop-p in
    sym (ap found_of (l.invariant
    ∙ place_end is_free (book_of a.book.now).entries free_entry l.p a.to c.loop-p-test.false))
