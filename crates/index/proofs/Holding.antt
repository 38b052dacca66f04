-- A block becomes held in the book: until it is put into the index, the index is that of the book without it.
use Prim.Native.Nat.{ℕ, ◌<◌}
use mathlib.Core.Path.{◌≡◌, sym, ap, ◌∙◌}
use mathlib.Core.Bool.{false}
use mathlib.Core.List.{List}
use native.Mathlib.Omega.{arith}
use lib.ListN.{length, set, length-set}
use lib.Seq.{get_or-set_same}
use Rattle.book.specs.Book.{Entry, Book, free_entry, entry_at}
use Rattle.book.specs.Layout.{book_of, Is}
use Rattle.book.specs.Next.{with_entries, with_entry, held_as}
use Rattle.finder.specs.Bucket.{bucket_of}
use Rattle.finder.specs.Indexed.{Indexed}
use Rattle.index.proofs.Without.{without}
use Rattle.index.proofs.Joining.{Joins, home_of}
use Rattle.index.proofs.Keeping.{indexed_alike, alike-without}

module _ (f : List ℕ) (p : ℕ) (b : List ℕ) {b' : List ℕ} (i : Is b' (with_entry (held_as f) p (book_of b))) where
  held-entries : (book_of b').entries ≡ set (book_of b).entries p (held_as f (entry_at (book_of b).entries p))
  unfolding with_entries
  held-entries = ap (λ (x : Book). x.entries) i.book

  module _ (l : p < length (book_of b).entries) where
    held-entry : entry_at (book_of b').entries p ≡ held_as f (entry_at (book_of b).entries p)
    held-entry =
        ap (λ (es : List Entry). entry_at es p) held-entries
        ∙ get_or-set_same (book_of b).entries p (held_as f (entry_at (book_of b).entries p)) free_entry l

    -- p joins those that were held, in the bucket of f
    pub held-joins : Joins (book_of b').entries p
    unfolding held_as
    held-joins = record {
      inside = rw held-entries (omega (arith, length-set (book_of b).entries p (held_as f (entry_at (book_of b).entries p))));
      held = ap (λ (e : Entry). e.held) held-entry;
    }

    pub held-home : bucket_of f ≡ home_of (book_of b').entries p
    unfolding held_as
    held-home = sym (ap (λ (e : Entry). bucket_of e.print) held-entry)

  pub held-without : (entry_at (book_of b).entries p).held ≡ false → {heads nexts : List ℕ} → Indexed (book_of b).entries heads nexts
      → Indexed (without p (book_of b').entries) heads nexts
  held-without k x =
      rw held-entries (indexed_alike (alike-without (book_of b).entries p (held_as f (entry_at (book_of b).entries p)) k) x)
