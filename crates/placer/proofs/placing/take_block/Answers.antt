-- What the two writers left, by `taken_is`.
use Prim.Native.Nat.{ℕ, ◌%◌}
use mathlib.Core.Path.{◌≡◌, refl, ap, ap₂, ◌∙◌}
use native.Mathlib.Omega.{arith}
use lib.ListN.{length}
use Rattle.runs.specs.Changes.{change_at}
use Rattle.list.proofs.ReaderLaws.{length-print}
use Rattle.book.specs.Book.{Book}
use Rattle.book.specs.Layout.{book_of, Is}
use Rattle.book.specs.Next.{with_entries, with_entry, held_as}
use Rattle.placer.proofs.Indexing.{cursor_indexed}
use Rattle.placer.proofs.PlaceLaws.{taken_is}
use Rattle.placer.proofs.placing.take_block.Goals as goal

pub hold-requires : goal.hold-requires
hold-requires c =
    let whole = c.args.list.whole in
    let size = length-print c.args.list.bytes.now c.args.list.shape whole c.args.i in
    let long = ap length c.print_of.ensures ∙ size (omega (arith, c.requires.change, whole.changes)) in
    record { holds = c.requires.holds; p_bound = c.requires.p_bound; print_len = long; indexed = c.requires.indexed }

pub nonzero_rem-p : goal.nonzero_rem-p
unfolding with_entries
nonzero_rem-p c =
    let size = c.blocks-n.ensures ∙ ap (λ (x : Book). x.sizes.n) c.hold.ensures.is.book in
    omega (arith, size, c.requires.p_bound.0)

pub returns : goal.returns
unfolding with_entries
returns c =
    let held : (let a = c.args in
    Is c.hold.new.book (with_entry (held_as (change_at a.list.bytes.now a.i).print) a.p.0 (book_of a.work.now))) = rw c.print_of.ensures at c.hold.ensures.is in
    let size : c.blocks-n.result ≡ (book_of c.args.work.now).sizes.n = c.blocks-n.ensures ∙ ap (λ (x : Book). x.sizes.n) held.book in
    let k = c.set_cursor in
    record {
      is = taken_is (change_at c.args.list.bytes.now c.args.i).print c.args.p.0 _ c.args.work.now _ _
          (ap₂ (λ (a c : ℕ). a % c) (omega arith) size) held k.ensures;
      taker_after = refl;
      indexed_2 = cursor_indexed _ c.hold.new.book _ k.ensures c.hold.ensures.indexed_2;
    }
