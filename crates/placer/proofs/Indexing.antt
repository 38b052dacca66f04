-- What leaves the index of the working copy as it is: the cursor, counts and expiries.
use Prim.Native.Nat.{ℕ}
use mathlib.Core.Path.{◌≡◌, refl, ap}
use mathlib.Core.Bool.{Bool, true, false}
use mathlib.Core.List.{List}
use lib.Dec.{eqb}
use lib.ListN.{set}
use Rattle.words.specs.Blocks.{unmapped}
use Rattle.words.specs.Choice.{when◌then◌else◌}
use Rattle.book.specs.Book.{Entry, Book, entry_at}
use Rattle.book.specs.Layout.{book_of, Is}
use Rattle.book.specs.Next.{with_cursor, count_as, expiry_as}
use Rattle.model.specs.Backup.{lowered, lower, raised}
use Rattle.claims.proofs.agreement.Moving.{moved_entries}
use Rattle.finder.specs.Indexed.{Indexed}
use Rattle.index.proofs.Keeping.{indexed_alike, alike_set}

-- the cursor is no entry
pub cursor_indexed : (k : ℕ) (b b₁ : List ℕ) {heads nexts : List ℕ} → Is b₁ (with_cursor k (book_of b))
    → Indexed (book_of b).entries heads nexts → Indexed (book_of b₁).entries heads nexts
unfolding with_cursor
cursor_indexed k b b₁ i x = let e : (book_of b₁).entries ≡ (book_of b).entries = ap (λ (y : Book). y.entries) i.book in rw e x

-- steps 3 and 4 change counts and an expiry
module _ (until before p : ℕ) (es : List Entry) {heads nexts : List ℕ} where
  lower_indexed : Indexed es heads nexts → Indexed (lower until before es) heads nexts
  unfolding lower lowered count_as expiry_as
  lower_indexed x = go (eqb before unmapped)
    where
      go : (t : Bool) → Indexed (when t then es else set es before (lowered until (entry_at es before))) heads nexts
      go true = x
      go false = indexed_alike (alike_set es before (lowered until (entry_at es before)) refl refl) x

  pub moved_indexed : Indexed es heads nexts → Indexed (moved_entries until before p es) heads nexts
  unfolding raised count_as
  moved_indexed x =
      indexed_alike (alike_set (lower until before es) p (raised (entry_at (lower until before es) p)) refl refl) (lower_indexed x)
