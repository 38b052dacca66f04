-- What a format leaves on each way out.
use Prim.Native.Nat.{ℕ}
use mathlib.Core.Path.{◌≡◌}
use mathlib.Core.Bool.{true, false, ◌&&◌}
use mathlib.Core.List.{List}
use lib.Dec.{eqb}
use lib.ListN.{length}
use borrow.Author.Tests.{eq-eqb, ne_eqb}
use Rattle.words.proofs.ChoiceLaws.{and_false}
use Rattle.words.specs.Lent.{Lent}
use Rattle.book.specs.Book.{Sizes}
use Rattle.book.specs.Layout.{book_size, Is}
use Rattle.book.specs.Form.{sizes_ok}
use Rattle.book.specs.Next.{new_sizes, fresh}
use Rattle.book.proofs.Holding.{bytes-is}
use Rattle.model.specs.OnBytes.{format_number, format_bytes}
use Rattle.setup.specs.Promises.{Formatted}

module _ (book : Lent (List ℕ)) (n l s j : ℕ) where
  abbrev z : Sizes
  z = new_sizes n l s j

  abbrev b : List ℕ
  b = book.entry.now

  module _ (same : book.exit.now ≡ b) where
    refused : (sizes_ok z && eqb (length b) (book_size z)) ≡ false → Formatted book n l s j 1
    unfolding format_bytes format_number
    refused e = record { number = rw e; book = rw e same }

    pub format_sizes : sizes_ok z ≡ false → Formatted book n l s j 1
    format_sizes e = refused (rw e)

    pub format_length : (length b ≡ book_size z → ⊥) → Formatted book n l s j 1
    format_length h = refused (rw (ne_eqb (length b) (book_size z) h) (and_false (sizes_ok z)))

  pub format_done : sizes_ok z ≡ true → length b ≡ book_size z → Is book.exit.now (fresh z)
      → Formatted book n l s j 0
  unfolding format_bytes format_number
  format_done e h i =
      let t = eq-eqb (length b) (book_size z) h in
      record { number = rw (e, t); book = rw (e, t) (bytes-is i) }
