-- Where the sections of a book's bytes start, how long they are, and which byte stands at each offset.
use mathlib.Core.Path.{◌≡◌, refl, ◌∙◌}
use mathlib.Core.Bool.{Bool, true, false}
use mathlib.Core.List.{List, [], ◌∷◌, ◌++◌}
use Prim.Native.Nat.{ℕ, ◌+◌, ◌*◌, ◌<◌}
use native.Mathlib.Omega.{arith}
use lib.Dec.{eqb}
use lib.ListN.{length, get_or, length-append}
use Rattle.words.specs.Blocks.{unmapped}
use Rattle.words.specs.Choice.{when◌then◌else◌}
use Rattle.words.specs.Numbers.{two}
use Rattle.words.proofs.SectionLaws.{start, get_or-joined, length_sect, get_or_sect, length-fit, inside}
use Rattle.words.specs.Sections.{flat, fit}
use Rattle.book.specs.Book.{volumes, Sizes, Entry, Slot, Rec, Book, free_entry, no_slot, no_rec, entry_at, cell_at, slot_at, rec_at}
use Rattle.book.specs.Book.{retention_of}
use Rattle.book.specs.Layout.{header_size, entry_size, slot_size, rec_size, retention_offset, entries_from, entry_offset, maps_from}
use Rattle.book.specs.Layout.{cell_offset, slots_from, slot_offset, records_from, rec_offset, book_size, rest_bytes, entry_bytes, map_bytes}
use Rattle.book.specs.Layout.{slot_bytes}
use Rattle.book.specs.Layout.{rec_bytes, header_words, sections, bytes}

-- "length: 36 + 20N + 16L + 8S + 6J" in layout 1, "21N in the length" in layout 2
pub narrow_size : (z : Sizes) → z.layout ≡ 1 → book_size z ≡ 36 + 20 * z.n + 16 * z.l + 8 * z.s + 6 * z.j
unfolding entry_size
narrow_size z e = rw e (omega arith)

pub wide-size : (z : Sizes) → z.layout ≡ 2 → book_size z ≡ 36 + 21 * z.n + 16 * z.l + 8 * z.s + 6 * z.j
unfolding entry_size
wide-size z e = rw e (omega arith)

-- ---- the size of each element

pub two_size : (v : ℕ) → length (two v) ≡ 2
two_size v = refl

pub entry-size : (g : ℕ) (e : Entry) → length (entry_bytes g e) ≡ entry_size g
unfolding entry_size
entry-size g e = go (eqb g 1)
  where
    go : (t : Bool) → length ((when t then e.count ∷ [] else two e.count) ++ rest_bytes e) ≡ (when t then 1 else 2) + 19
    go true = simp length-fit
    go false = simp length-fit

pub map-size : (l : ℕ) (m : List ℕ) → length (map_bytes l m) ≡ l * 2
map-size l m = length_sect 2 two two_size unmapped l m

pub slot-size : (t : Slot) → length (slot_bytes t) ≡ slot_size
slot-size t = refl

pub rec-size : (r : Rec) → length (rec_bytes r) ≡ rec_size
rec-size r = refl

module _ (x : Book) where
  -- ---- the length of each section

  pub retentions-long : length (flat two (fit 0 volumes x.retentions)) ≡ volumes * 2
  retentions-long = length_sect 2 two two_size 0 volumes x.retentions

  abbrev g : ℕ
  g = x.sizes.layout

  pub entries-long : length (flat (entry_bytes g) (fit free_entry x.sizes.n x.entries)) ≡ x.sizes.n * entry_size g
  entries-long = length_sect (entry_size g) (entry_bytes g) (entry-size g) free_entry x.sizes.n x.entries

  pub maps-long : length (flat (map_bytes x.sizes.l) (fit [] volumes x.maps)) ≡ volumes * (x.sizes.l * 2)
  maps-long = length_sect (x.sizes.l * 2) (map_bytes x.sizes.l) (map-size x.sizes.l) [] volumes x.maps

  pub slots-long : length (flat slot_bytes (fit no_slot x.sizes.s x.slots)) ≡ x.sizes.s * slot_size
  slots-long = length_sect slot_size slot_bytes slot-size no_slot x.sizes.s x.slots

  pub records-long : length (flat rec_bytes (fit no_rec x.sizes.j x.records)) ≡ x.sizes.j * rec_size
  records-long = length_sect rec_size rec_bytes rec-size no_rec x.sizes.j x.records

  -- ---- where each section starts

  pub start-entries : start (sections x) 2 ≡ entries_from
  start-entries = rw retentions-long

  pub start-maps : start (sections x) 3 ≡ maps_from x.sizes
  start-maps = rw (retentions-long, entries-long) (omega arith)

  pub start-slots : start (sections x) 4 ≡ slots_from x.sizes
  start-slots = rw (retentions-long, entries-long, maps-long) (omega arith)

  pub start-records : start (sections x) 5 ≡ records_from x.sizes
  start-records = rw (retentions-long, entries-long, maps-long, slots-long) (omega arith)

  pub length-bytes : length (bytes x) ≡ book_size x.sizes
  unfolding bytes
  length-bytes = simp length-append (rw (retentions-long, entries-long, maps-long, slots-long, records-long) (omega arith))

  -- ---- the byte at each offset

  -- the byte at i is byte j of section k, which starts at o and has m bytes
  get_in : (k o m j i : ℕ) → start (sections x) k ≡ o → length (get_or (sections x) k []) ≡ m → j < m → i ≡ o + j
      → get_or (bytes x) i 0 ≡ get_or (get_or (sections x) k []) j 0
  unfolding bytes
  get_in k o m j i eo em h e = rw (e, ← eo) (get_or-joined (sections x) k j (rw em h))

  pub get-head : (i : ℕ) → i < header_size → get_or (bytes x) i 0 ≡ get_or (flat two (header_words x)) i 0
  get-head i h = get_in 0 0 header_size i i refl refl h (omega arith)

  pub get-retention : (v j i : ℕ) → v < volumes → j < 2 → i ≡ retention_offset v + j → get_or (bytes x) i 0 ≡ get_or (two (retention_of x v)) j 0
  get-retention v j i hv hj e =
      get_in 1 header_size (volumes * 2) (v * 2 + j) i refl retentions-long (omega arith) (omega arith)
      ∙ get_or_sect 2 two two_size 0 volumes x.retentions v j hv hj

  pub get-entry : (p j i : ℕ) → p < x.sizes.n → j < entry_size g → i ≡ entry_offset g p + j
      → get_or (bytes x) i 0 ≡ get_or (entry_bytes g (entry_at x.entries p)) j 0
  get-entry p j i hp hj e =
      get_in 2 entries_from (x.sizes.n * entry_size g) (p * entry_size g + j) i start-entries entries-long
      (inside p j x.sizes.n (entry_size g) hp hj) (omega arith)
      ∙ get_or_sect (entry_size g) (entry_bytes g) (entry-size g) free_entry x.sizes.n x.entries p j hp hj

  pub get-cell : (v l j i : ℕ) → v < volumes → l < x.sizes.l → j < 2 → i ≡ cell_offset x.sizes v l + j
      → get_or (bytes x) i 0 ≡ get_or (two (cell_at x.maps v l)) j 0
  get-cell v l j i hv hl hj e =
      let w = x.sizes.l * 2 in
      let hin : l * 2 + j < w = omega arith in
      get_in 3 (maps_from x.sizes) (volumes * w) (v * w + (l * 2 + j)) i start-maps maps-long
      (inside v (l * 2 + j) volumes w hv hin) (omega arith)
      ∙ get_or_sect w (map_bytes x.sizes.l) (map-size x.sizes.l) [] volumes x.maps v (l * 2 + j) hv hin
      ∙ get_or_sect 2 two two_size unmapped x.sizes.l (get_or x.maps v []) l j hl hj

  pub get-slot : (q j i : ℕ) → q < x.sizes.s → j < slot_size → i ≡ slot_offset x.sizes q + j
      → get_or (bytes x) i 0 ≡ get_or (slot_bytes (slot_at x.slots q)) j 0
  get-slot q j i hq hj e =
      get_in 4 (slots_from x.sizes) (x.sizes.s * slot_size) (q * slot_size + j) i start-slots slots-long (omega arith) (omega arith)
      ∙ get_or_sect slot_size slot_bytes slot-size no_slot x.sizes.s x.slots q j hq hj

  pub get-rec : (q j i : ℕ) → q < x.sizes.j → j < rec_size → i ≡ rec_offset x.sizes q + j
      → get_or (bytes x) i 0 ≡ get_or (rec_bytes (rec_at x.records q)) j 0
  get-rec q j i hq hj e =
      get_in 5 (records_from x.sizes) (x.sizes.j * rec_size) (q * rec_size + j) i start-records records-long (omega arith) (omega arith)
      ∙ get_or_sect rec_size rec_bytes rec-size no_rec x.sizes.j x.records q j hq hj
