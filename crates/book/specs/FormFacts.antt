-- What a call knows of a book in form (the representation invariant), in facts: the tests of Form.antt, clause by clause.
use Rattle.std.specs.Prelude.{ℕ, ◌*◌, ◌<◌, ◌≤◌, ◌≡◌, List, length, true}
use Rattle.book.specs.Layout.{current, header_size, count_size, entry_size, n_offset, book_size, sizes_of, book_of, HoldsWide}
use Rattle.book.specs.Form.{retention_ok, entry_ok, pbn_ok, rec_ok, afters_ok, slot_ok, days_ok, pairs_ok}
use Rattle.book.specs.Book.{Sizes, Book}
use Rattle.words.specs.Numbers.{num}
use Rattle.words.specs.Lists.{all}

-- sizes of layout g, in range
pub record SizesIn (g : ℕ) (z : Sizes) : Type 0 where
  pub layout : z.layout ≡ g
  pub n₀ : 1 ≤ z.n
  pub n : z.n ≤ 4096
  pub l₀ : 1 ≤ z.l
  pub l : z.l ≤ 1024
  pub s₀ : 1 ≤ z.s
  pub s : z.s ≤ 1024
  pub j₀ : 1 ≤ z.j
  pub j : z.j ≤ 16384

-- "N pool blocks, 1 to 4,096" and so on: the upper bounds alone, which keep every offset below 2¹⁸; with counts of w bytes
pub record BoundsWide (w : ℕ) (z : Sizes) : Type 0 where
  pub wide : count_size z.layout ≡ w
  pub n : z.n ≤ 4096
  pub l : z.l ≤ 1024
  pub s : z.s ≤ 1024
  pub j : z.j ≤ 16384

abbrev pub Bounds : Sizes → Type 0
Bounds z = BoundsWide (count_size current) z

-- laid out as a book of layout g
pub record Laid (g : ℕ) (b : List ℕ) : Type 0 where
  pub header : header_size ≤ length b
  pub sizes : SizesIn g (sizes_of b)
  pub len : length b ≡ book_size (sizes_of b)
  -- for `omega`
  pub entries : num b n_offset * entry_size (num b 0) ≡ num b n_offset * entry_size g

-- what the book shows
pub record BookParts (x : Book) : Type 0 where
  pub day : x.day ≤ 60000
  pub cursor : x.cursor < x.sizes.n
  pub retentions : all retention_ok x.retentions ≡ true
  pub entries : all entry_ok x.entries ≡ true
  pub maps : all (all (pbn_ok x.sizes.n)) x.maps ≡ true
  pub slots : all (slot_ok x) x.slots ≡ true
  pub days : days_ok x.slots ≡ true
  pub pairs : pairs_ok 0 x.slots (length x.records) ≡ true
  pub records : all (rec_ok x.sizes) x.records ≡ true
  pub afters : afters_ok x.slots x.records ≡ true

-- the bytes hold a book of layout g, and that book meets its conditions
pub record FormFactsAs (g : ℕ) (b : List ℕ) : Type 0 where
  pub holds : HoldsWide (count_size g) b
  pub layout : (book_of b).sizes.layout ≡ g
  pub parts : BookParts (book_of b)

abbrev pub FormFacts : List ℕ → Type 0
FormFacts b = FormFactsAs current b
