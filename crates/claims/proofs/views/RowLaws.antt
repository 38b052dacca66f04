-- How long the rows are that a host is shown of the blocks and of a map.
use Prim.Native.Nat.{ℕ, zero, suc, ◌*◌, ◌<◌, suc-le-suc}
use mathlib.Core.Path.{◌≡◌, refl, sym, ap, ◌∙◌}
use mathlib.Core.List.{List, [], ◌∷◌}
use native.Mathlib.Nat.{zero-mul, suc-mul, zero-lt-suc}
use native.Mathlib.Omega.{arith}
use lib.ListN.{length, get_or, length-append}
use Rattle.words.specs.Blocks.{print_size}
use Rattle.words.specs.Numbers.{two}
use Rattle.words.specs.Sections.{flat}
use Rattle.words.proofs.SectionLaws.{length-flat}
use Rattle.book.specs.Book.{volumes, Entry, Book, entry_at, Sized}
use Rattle.model.specs.Views.{block_row, blocks_of, cells_of}

pub row-length : (e : Entry) → length e.print ≡ print_size → length (block_row e) ≡ 22
row-length e h = omega arith

rows-length : (es : List Entry) → ((p : ℕ) → p < length es → length (entry_at es p).print ≡ print_size)
    → length (flat block_row es) ≡ length es * 22
rows-length [] h = sym (zero-mul 22)
rows-length (e ∷ es) h =
    omega (
      arith,
      length-append (block_row e) (flat block_row es),
      row-length e (h zero (zero-lt-suc (length es))),
      rows-length es (λ p b. h (suc p) (suc-le-suc b)),
      suc-mul (length es) 22,
    )

pub blocks-length : (x : Book) → Sized x → length (blocks_of x) ≡ x.sizes.n * 22
unfolding blocks_of
blocks-length x s =
    rows-length x.entries (λ p h. s.prints p (rw s.entries at h)) ∙ ap (λ (n : ℕ). n * 22) s.entries

pub cells-length : (x : Book) (v : ℕ) → Sized x → v < volumes → length (cells_of x v) ≡ x.sizes.l * 2
unfolding cells_of
cells-length x v s h = length-flat 2 two (λ k. refl) (get_or x.maps v []) ∙ ap (λ (n : ℕ). n * 2) (s.cells v h)
