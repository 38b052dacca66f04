-- When bytes hold a book: from their shape, or as the bytes of a given book.
use mathlib.Core.Path.{◌≡◌, refl, ap, ◌∙◌}
use mathlib.Core.Bool.{true}
use mathlib.Core.List.{List}
use Prim.Native.Nat.{ℕ, ◌<◌}
use lib.ListN.{length, get_or}
use Rattle.book.specs.Book.{Sizes, Book, Sized}
use Rattle.book.specs.Layout.{count_size, bytes, sizes_of, book_of, HoldsWide, Holds, Is}
use Rattle.book.specs.Form.{sizes_ok}
use Rattle.book.specs.FormFacts.{SizesIn}
use Rattle.book.proofs.SizesIn.{sizes-facts}
use Rattle.book.proofs.Bytes.{length-bytes}
use Rattle.book.proofs.Laws.{book-bytes}
use Rattle.book.proofs.Outline.{Outline}
use Rattle.book.specs.FormFacts.{BoundsWide, Bounds}
use Rattle.book.proofs.Widths.{entries-wide}
use Rattle.book.proofs.Back.{bytes-book, sized-book}

holds_of : {w : ℕ} (b : List ℕ) → b ≡ bytes (book_of b) → Sized (book_of b) → BoundsWide w (book_of b).sizes → HoldsWide w b
holds_of {w} b e s z =
    record {
      same = e;
      sized = s;
      len = ap length e ∙ length-bytes (book_of b);
      wide = z.wide;
      entries = entries-wide (book_of b).sizes w z.wide;
      n = z.n;
      l = z.l;
      s = z.s;
      j = z.j;
      slots = s.slots;
      records = s.records;
    }

pub holds_outline : {w : ℕ} (b : List ℕ) → ((i : ℕ) → get_or b i 0 < 256) → Outline b → BoundsWide w (sizes_of b) → HoldsWide w b
unfolding book_of
holds_outline b small s z = holds_of b (bytes-book b small s) (sized-book b small s) z

-- b is x, from its bytes, and back
pub is-bytes : {b : List ℕ} (x : Book) → Sized x → Bounds x.sizes → b ≡ bytes x → Is b x
is-bytes {b} x s z e =
    let q : book_of b ≡ x = rw e (book-bytes x s) in
    record { holds = holds_of b (rw q e) (rw q s) (rw q z); book = q }

pub bytes-is : {b : List ℕ} {x : Book} → Is b x → b ≡ bytes x
bytes-is i = rw i.book at i.holds.same

pub sized-is : {b : List ℕ} {x : Book} → Is b x → Sized x
sized-is i = rw i.book at i.holds.sized

pub bounds-holds : {b : List ℕ} → Holds b → Bounds (book_of b).sizes
bounds-holds h = record { wide = h.wide; n = h.n; l = h.l; s = h.s; j = h.j }

-- b is the book that it says
pub is-holds : {b : List ℕ} → Holds b → Is b (book_of b)
is-holds h = record { holds = h; book = refl }

-- sizes in range are within the bounds
pub bounds_in : {g : ℕ} {z : Sizes} → SizesIn g z → BoundsWide (count_size g) z
bounds_in i = record { wide = ap count_size i.layout; n = i.n; l = i.l; s = i.s; j = i.j }

pub bounds_ok : (z : Sizes) → sizes_ok z ≡ true → Bounds z
bounds_ok z e = bounds_in (sizes-facts z e)

-- one writer after another
pub is-then : (g : Book → Book) {b₁ b₂ : List ℕ} {x : Book} → Is b₁ x → Is b₂ (g (book_of b₁)) → Is b₂ (g x)
is-then g i j = record { holds = j.holds; book = j.book ∙ ap g i.book }

pub is_same : {b : List ℕ} {x y : Book} → x ≡ y → Is b x → Is b y
is_same e i = record { holds = i.holds; book = i.book ∙ e }
