-- The search goes up from the first block of the bucket; what it finds is what a search from block 0 on does.
use mathlib.Core.Path.{◌≡◌, sym, ap, ◌∙◌}
use native.Mathlib.Omega.{arith}
use Rattle.book.specs.Layout.{book_of}
use Rattle.finder.specs.Answers.{found_of}
use Rattle.finder.specs.First.{first_from}
use Rattle.finder.specs.Bucket.{has_print}
use Rattle.finder.proofs.FindingLaws.{chain-start, search_start, found_at, found_nowhere}
use Rattle.finder.proofs.finding.Index.find.Goals as goal

pub search-q-requires : goal.search-q-requires
search-q-requires c =
    let h = c.bucket_of in
    let chain = chain-start _ _ 0 c.requires.indexed (omega arith) h.result h.ensures.0 h.ensures.1 in
    record { holds = c.requires.holds; print_len = c.requires.print_len; chain = chain }

pub returns-then-q-blocks : goal.returns-then-q-blocks
returns-then-q-blocks c =
    let lowest : (let a = c.args in
    c.search-q.result ≡ first_from (has_print a.print.now) (book_of a.book.now).entries 0) =
    let h = c.bucket_of in
    c.search-q.ensures
    ∙ search_start _ _ 0 c.requires.indexed (omega arith) h.result h.ensures.0 h.ensures.1
    in
    let z = c.requires.holds.sized.entries in
    sym (ap found_of (found_at _ _ _ lowest (omega (arith, c.blocks-2.ensures, c.if-q-blocks.true))))

pub returns : goal.returns
returns c =
    let lowest : (let a = c.args in
    c.search-q.result ≡ first_from (has_print a.print.now) (book_of a.book.now).entries 0) =
    let h = c.bucket_of in
    c.search-q.ensures
    ∙ search_start _ _ 0 c.requires.indexed (omega arith) h.result h.ensures.0 h.ensures.1
    in
    let z = c.requires.holds.sized.entries in
    sym (ap found_of (found_nowhere _ _ _ lowest (omega (arith, c.blocks-2.ensures, c.if-q-blocks.false))))
