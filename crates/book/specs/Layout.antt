-- The layout of a book in bytes (document 01, "The book"): `bytes` writes it, `book_of` (the abstraction function) reads it. Both go by the
-- book's layout number, whatever it is, so that books of all layouts are one `Book`.
use Rattle.std.specs.Prelude.{ℕ, ◌+◌, ◌*◌, ◌≤◌, ◌/◌, ◌%◌, ◌≡◌, Bool, List, [], ◌∷◌, ◌++◌, length, get_or, eqb}
use Rattle.std.specs.Borrow.{Bor}
use Rattle.words.specs.Blocks.{print_size, unmapped}
use Rattle.words.specs.Choice.{when◌then◌else◌}
use Rattle.words.specs.Lists.{joined}
use Rattle.words.specs.Numbers.{two, num}
use Rattle.words.specs.Sections.{flat, fit, tab}
use Rattle.book.specs.Book.{volumes, Sizes, Entry, Slot, Rec, Book, free_entry, no_slot, no_rec, Sized}

-- the layout that format makes and that the calls take
abbrev pub current : ℕ
current = 3

-- sizes of the elements, in bytes
abbrev pub header_size : ℕ
header_size = 20

-- a count has one byte in layout 1; "the count becomes u16" in layout 2, and stays so
abbrev pub count_size : ℕ → ℕ
count_size g = when eqb g 1 then 1 else 2

-- a count, a state, an expiry and a fingerprint
unfoldable pub entry_size : ℕ → ℕ
entry_size g = count_size g + 19

abbrev pub slot_size : ℕ
slot_size = 8

abbrev pub rec_size : ℕ
rec_size = 6

-- where the header's numbers stand: "layout; N; L; S; J; B slots used; U records used; day; cursor; zero"
abbrev pub n_offset : ℕ
n_offset = 2

abbrev pub l_offset : ℕ
l_offset = 4

abbrev pub s_offset : ℕ
s_offset = 6

abbrev pub j_offset : ℕ
j_offset = 8

abbrev pub b_offset : ℕ
b_offset = 10

abbrev pub u_offset : ℕ
u_offset = 12

abbrev pub day_offset : ℕ
day_offset = 14

abbrev pub cursor_offset : ℕ
cursor_offset = 16

abbrev pub zero_offset : ℕ
zero_offset = 18

-- where an element stands, by the sizes
abbrev pub retention_offset : ℕ → ℕ
retention_offset v = header_size + v * 2

abbrev pub entries_from : ℕ
entries_from = header_size + volumes * 2

-- of entry p in layout g
abbrev pub entry_offset : ℕ → ℕ → ℕ
entry_offset g p = entries_from + p * entry_size g

-- in today's layout, as `omega` takes it
abbrev pub current_offset : ℕ → ℕ
current_offset p = entries_from + p * (count_size current + 19)

abbrev pub maps_from : Sizes → ℕ
maps_from z = entries_from + z.n * entry_size z.layout

abbrev pub cell_offset : Sizes → ℕ → ℕ → ℕ
cell_offset z v l = maps_from z + (v * (z.l * 2) + l * 2)

abbrev pub slots_from : Sizes → ℕ
slots_from z = maps_from z + volumes * (z.l * 2)

abbrev pub slot_offset : Sizes → ℕ → ℕ
slot_offset z q = slots_from z + q * slot_size

abbrev pub records_from : Sizes → ℕ
records_from z = slots_from z + z.s * slot_size

abbrev pub rec_offset : Sizes → ℕ → ℕ
rec_offset z q = records_from z + q * rec_size

-- "length: 36 + 20N + 16L + 8S + 6J" in layout 1, and "entries have 21 bytes (21N in the length)" in layout 2 (document 02, K3)
abbrev pub book_size : Sizes → ℕ
book_size z = records_from z + z.j * rec_size

-- ---- the bytes of a book, section after section, unused places zero

-- an entry's state, and a slot's second byte
abbrev pub state_byte : Bool → ℕ
state_byte on = when on then 1 else 0

abbrev pub count_bytes : ℕ → ℕ → List ℕ
count_bytes g c = when eqb g 1 then c ∷ [] else two c

-- what follows an entry's count
abbrev pub rest_bytes : Entry → List ℕ
rest_bytes e = state_byte e.held ∷ e.expiry % 256 ∷ e.expiry / 256 ∷ fit 0 print_size e.print

-- an entry in layout g
abbrev pub entry_bytes : ℕ → Entry → List ℕ
entry_bytes g e = count_bytes g e.count ++ rest_bytes e

abbrev pub map_bytes : ℕ → List ℕ → List ℕ
map_bytes l m = flat two (fit unmapped l m)

abbrev pub slot_bytes : Slot → List ℕ
slot_bytes t = t.volume ∷ state_byte t.retire ∷ flat two (t.day ∷ t.first ∷ t.number ∷ [])

abbrev pub rec_bytes : Rec → List ℕ
rec_bytes r = flat two (r.lbn ∷ r.before ∷ r.after ∷ [])

abbrev pub header_words : Book → List ℕ
header_words x =
    x.sizes.layout
    ∷ x.sizes.n
    ∷ x.sizes.l
    ∷ x.sizes.s
    ∷ x.sizes.j
    ∷ length x.slots
    ∷ length x.records
    ∷ x.day
    ∷ x.cursor
    ∷ 0
    ∷ []

abbrev pub sections : Book → List (List ℕ)
sections x =
    flat two (header_words x)
    ∷ flat two (fit 0 volumes x.retentions)
    ∷ flat (entry_bytes x.sizes.layout) (fit free_entry x.sizes.n x.entries)
    ∷ flat (map_bytes x.sizes.l) (fit [] volumes x.maps)
    ∷ flat slot_bytes (fit no_slot x.sizes.s x.slots)
    ∷ flat rec_bytes (fit no_rec x.sizes.j x.records)
    ∷ []

unfoldable pub bytes : Book → List ℕ
bytes x = joined (sections x)

-- ---- what bytes say

abbrev pub sizes_of : List ℕ → Sizes
sizes_of b = record { layout = num b 0; n = num b n_offset; l = num b l_offset; s = num b s_offset; j = num b j_offset }

abbrev pub count_in : ℕ → List ℕ → ℕ → ℕ
count_in g b at = when eqb g 1 then get_or b at 0 else num b at

-- the entry that stands at `at` in layout g
abbrev pub entry_in : ℕ → List ℕ → ℕ → Entry
entry_in g b at = record {
  count = count_in g b at;
  held = eqb (get_or b (at + count_size g) 0) 1;
  expiry = num b (at + (count_size g + 1));
  print = tab print_size (λ i. get_or b (at + (count_size g + 3) + i) 0);
}

abbrev pub entry_of : List ℕ → ℕ → Entry
entry_of b p = entry_in (num b 0) b (entry_offset (num b 0) p)

abbrev pub cell_of : List ℕ → ℕ → ℕ → ℕ
cell_of b v l = num b (cell_offset (sizes_of b) v l)

abbrev pub slot_of : List ℕ → ℕ → Slot
slot_of b at = record {
  volume = get_or b at 0;
  retire = eqb (get_or b (at + 1) 0) 1;
  day = num b (at + 2);
  first = num b (at + 4);
  number = num b (at + 6);
}

abbrev pub rec_of : List ℕ → ℕ → Rec
rec_of b at = record { lbn = num b at; before = num b (at + 2); after = num b (at + 4) }

unfoldable pub book_of : List ℕ → Book
book_of b = record {
  sizes = sizes_of b;
  day = num b day_offset;
  cursor = num b cursor_offset;
  retentions = tab volumes (λ v. num b (retention_offset v));
  entries = tab (num b n_offset) (entry_of b);
  maps = tab volumes (λ v. tab (num b l_offset) (cell_of b v));
  slots = tab (num b b_offset) (λ q. slot_of b (slot_offset (sizes_of b) q));
  records = tab (num b u_offset) (λ q. rec_of b (rec_offset (sizes_of b) q));
}

-- what a lent book says
abbrev pub told : Bor (List ℕ) → Book
told b = book_of b.now

-- ---- what readers and writers require and ensure

-- the bytes are those of the book that they say, and that book is well sized and has counts of w bytes. The numbers follow, and stand here
-- for `omega`
pub record HoldsWide (w : ℕ) (b : List ℕ) : Type 0 where
  pub same : b ≡ bytes (book_of b)
  pub sized : Sized (book_of b)
  pub len : length b ≡ book_size (book_of b).sizes
  pub wide : count_size (book_of b).sizes.layout ≡ w
  pub entries : (book_of b).sizes.n * entry_size (book_of b).sizes.layout ≡ (book_of b).sizes.n * (w + 19)
  pub n : (book_of b).sizes.n ≤ 4096
  pub l : (book_of b).sizes.l ≤ 1024
  pub s : (book_of b).sizes.s ≤ 1024
  pub j : (book_of b).sizes.j ≤ 16384
  pub slots : length (book_of b).slots ≤ (book_of b).sizes.s
  pub records : length (book_of b).records ≤ (book_of b).sizes.j

-- with counts as wide as today's: what readers and writers of a book take
abbrev pub Holds : List ℕ → Type 0
Holds b = HoldsWide (count_size current) b

-- b is the book x
pub record Is (b : List ℕ) (x : Book) : Type 0 where
  pub holds : Holds b
  pub book : book_of b ≡ x
