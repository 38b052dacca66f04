-- A free block is passed; a held one becomes the first of its bucket, and what the search of the blocks above finds
-- decides.
use Prim.Native.Nat.{◌+◌, ◌<◌}
use mathlib.Core.Path.{◌≡◌, sym, ap, ◌∙◌}
use mathlib.Core.Bool.{not, true}
use native.Mathlib.Omega.{arith}
use lib.ListN.{length}
use Rattle.words.proofs.ChoiceLaws.{failed, passed}
use Rattle.book.specs.Book.{entry_at}
use Rattle.book.specs.Layout.{book_of}
use Rattle.finder.specs.Bucket.{bucket_of}
use Rattle.finder.proofs.BucketLaws.{apart-free, apart-held}
use Rattle.finder.proofs.FindingLaws.{chain-start, search_start}
use Rattle.index.proofs.LinkLaws.{linked-free, linked-held}
use Rattle.index.proofs.linking.link_apart.Goals as goal

pub returns-then-not-is_held : goal.returns-then-not-is_held
returns-then-not-is_held c =
    let inside : c.args.p.0 < length (book_of c.args.book.now).entries = omega (arith, c.requires.holds.sized.entries) in
    let es = (book_of c.args.book.now).entries in
    let k = failed c.is_held.ensures (ap not c.if-not-is_held.true) in
    record { value = sym (apart-free es c.args.p.0 k); indexed_from_2 = linked-free es c.args.p.0 inside _ _ c.requires.indexed_from k }

pub bucket_of-home-requires : goal.bucket_of-home-requires
bucket_of-home-requires c =
    ap length c.print_of-print.ensures ∙ c.requires.holds.sized.prints c.args.p.0 c.requires.p_bound

pub search-found-requires : goal.search-found-requires
search-found-requires c =
    let inside : c.args.p.0 < length (book_of c.args.book.now).entries = omega (arith, c.requires.holds.sized.entries) in
    let h = c.bucket_of-home in
    record {
      holds = c.requires.holds;
      print_len = ap length c.print_of-print.ensures ∙ c.requires.holds.sized.prints c.args.p.0 c.requires.p_bound;
      chain = chain-start _ _ (c.args.p.0 + 1) c.requires.indexed_from (omega (arith, inside))
          h.result h.ensures.0 h.ensures.1;
    }

pub returns : goal.returns
returns c =
    let inside : c.args.p.0 < length (book_of c.args.book.now).entries = omega (arith, c.requires.holds.sized.entries) in
    let held : (let a = c.args in
    (entry_at (book_of a.book.now).entries a.p.0).held ≡ true) = passed c.is_held.ensures (ap not c.if-not-is_held.false) in
    let h = c.bucket_of-home in
    let print = c.print_of-print.ensures in
    let p = c.args.p.0 in
    let es = (book_of c.args.book.now).entries in
    let first = search_start es _ (p + 1) c.requires.indexed_from (omega (arith, inside)) h.result h.ensures.0 in
    record {
      value = apart-held es p inside held print (c.search-found.ensures ∙ first h.ensures.1)
          (c.blocks-2.ensures ∙ sym c.requires.holds.sized.entries);
      indexed_from_2 = rw (c.prepend.ensures.0, c.prepend.ensures.1)
          (linked-held es p inside _ _ c.requires.indexed_from h.result h.ensures.1 held
          (h.ensures.0 ∙ ap bucket_of print));
    }
