-- A free block leaves the tables as they are; a held one becomes the first of its bucket.
use Prim.Native.Nat.{◌<◌}
use mathlib.Core.Bool.{not}
use mathlib.Core.Path.{ap, ◌∙◌}
use native.Mathlib.Omega.{arith}
use lib.ListN.{length}
use Rattle.words.proofs.ChoiceLaws.{failed, passed}
use Rattle.book.specs.Layout.{book_of}
use Rattle.finder.specs.Bucket.{bucket_of}
use Rattle.index.proofs.LinkLaws.{linked-free, linked-held}
use Rattle.index.proofs.linking.link.Goals as goal

pub returns-then-not-is_held : goal.returns-then-not-is_held
returns-then-not-is_held c =
    let inside : c.args.p.0 < length (book_of c.args.book.now).entries = omega (arith, c.requires.holds.sized.entries) in
    let es = (book_of c.args.book.now).entries in
    linked-free es c.args.p.0 inside _ _ c.requires.indexed_from (failed c.is_held.ensures (ap not c.if-not-is_held.true))

pub bucket_of-home-requires : goal.bucket_of-home-requires
bucket_of-home-requires c =
    ap length c.print_of.ensures ∙ c.requires.holds.sized.prints c.args.p.0 c.requires.p_bound

pub returns : goal.returns
returns c =
    let inside : c.args.p.0 < length (book_of c.args.book.now).entries = omega (arith, c.requires.holds.sized.entries) in
    let es = (book_of c.args.book.now).entries in
    rw (c.prepend.ensures.0, c.prepend.ensures.1)
    (linked-held es c.args.p.0 inside _ _ c.requires.indexed_from c.bucket_of-home.result c.bucket_of-home.ensures.1
    (passed c.is_held.ensures (ap not c.if-not-is_held.false))
    (c.bucket_of-home.ensures.0 ∙ ap bucket_of c.print_of.ensures))
