-- Bytes in form: the shape that they have, and that a book's conditions and the shape are all that form asks.
use Prim.Native.Nat.{ℕ, ◌+◌, ◌-◌, ◌*◌, ◌≤◌, ◌<◌}
use mathlib.Core.Path.{◌≡◌, ◌∙◌, sym}
use mathlib.Core.Bool.{true}
use mathlib.Core.List.{List}
use native.Mathlib.Omega.{arith}
use lib.Dec.{eqb}
use lib.ListN.{length, get_or}
use borrow.Author.Tests.{leb-true, eqb-true, le-leb, eq-eqb}
use Rattle.words.proofs.Each.{each_at, at_each, all-each, zeros-each}
use Rattle.words.specs.Lists.{all_zero}
use Rattle.words.specs.Numbers.{num}
use Rattle.words.specs.Sections.{part}
use Rattle.book.specs.Book.{Book, Sized}
use Rattle.book.specs.Layout.{current, header_size, count_size, n_offset, s_offset, j_offset, b_offset, u_offset, entry_offset, slot_size}
use Rattle.book.specs.Layout.{slot_offset, rec_size, rec_offset, book_size, bytes, sizes_of, book_of, HoldsWide, Holds}
use Rattle.book.specs.Form.{sizes_as, layout_as, state_ok, second_ok, book_ok, form_as, sizes_ok, form_number}
use Rattle.book.proofs.SizesIn.{sizes_in_lem}
use Rattle.book.specs.FormFacts.{Laid}
use Rattle.book.proofs.FormNumber.{layout-facts, form-parts, parts-form}
use Rattle.book.proofs.Clauses.{RawParts, raw-parts, parts-raw}
use Rattle.book.proofs.Laws.{sizes-bytes, book-bytes}
use Rattle.book.proofs.Outline.{Outline}
use Rattle.book.proofs.OutlineLaws.{shape-bytes}
use Rattle.book.proofs.Holding.{holds_outline, bounds_in}

-- ---- zero bytes, as one test and offset by offset

zero-byte : (b : List ℕ) (o m : ℕ) → o + m ≤ length b → all_zero (part b o m) ≡ true → (i : ℕ) → o ≤ i → i < o + m → get_or b i 0 ≡ 0
zero-byte b o m h e i lo hi =
    eqb-true (get_or b i 0) 0 (each_at (λ k. eqb (get_or b k 0) 0) o (o + m) (sym (zeros-each b m o h) ∙ e) i lo hi)

byte-zero : (b : List ℕ) (o m : ℕ) → o + m ≤ length b → ((i : ℕ) → o ≤ i → i < o + m → get_or b i 0 ≡ 0) → all_zero (part b o m) ≡ true
byte-zero b o m h z =
    zeros-each b m o h ∙ at_each (λ k. eqb (get_or b k 0) 0) o (o + m) (λ i lo hi. eq-eqb (get_or b i 0) 0 (z i lo hi))

-- ---- the shape, from the tests and back

pub outline_parts : {g : ℕ} (b : List ℕ) → Laid g b → RawParts b → Outline b
unfolding state_ok second_ok
outline_parts b l r =
    let len = l.len in
    let slots = r.slots in
    let records = r.records in
    record {
      len = len;
      spare = r.spare;
      slots = slots;
      records = records;
      states =
          λ p h. leb-true (get_or b (entry_offset (num b 0) p + count_size (num b 0)) 0) 1
          (each_at (state_ok (num b 0) b) 0 (num b n_offset) (sym (all-each (state_ok (num b 0) b) (num b n_offset)) ∙ r.states) p
          (omega arith) h);
      seconds =
          λ q h. leb-true (get_or b (slot_offset (sizes_of b) q + 1) 0) 1
          (each_at (second_ok b) 0 (num b b_offset) (sym (all-each (second_ok b) (num b b_offset)) ∙ r.seconds) q
          (omega arith) h);
      free_slots =
          λ i lo hi. zero-byte b (slot_offset (sizes_of b) (num b b_offset)) ((num b s_offset - num b b_offset) * slot_size)
          (omega arith) r.rest_slots i lo (omega arith);
      free_records =
          λ i lo hi. zero-byte b (rec_offset (sizes_of b) (num b u_offset)) ((num b j_offset - num b u_offset) * rec_size)
          (omega arith) r.rest_records i lo (omega arith);
    }

pub parts_outline : (b : List ℕ) → Outline b → RawParts b
unfolding state_ok second_ok
parts_outline b h =
    let len = h.len in
    let slots = h.slots in
    let records = h.records in
    record {
      slots = slots;
      records = records;
      spare = h.spare;
      states =
          all-each (state_ok (num b 0) b) (num b n_offset)
          ∙ at_each (state_ok (num b 0) b) 0 (num b n_offset)
          (λ p _ l. le-leb (get_or b (entry_offset (num b 0) p + count_size (num b 0)) 0) 1 (h.states p l));
      seconds =
          all-each (second_ok b) (num b b_offset)
          ∙ at_each (second_ok b) 0 (num b b_offset)
          (λ q _ l. le-leb (get_or b (slot_offset (sizes_of b) q + 1) 0) 1 (h.seconds q l));
      rest_slots =
          byte-zero b (slot_offset (sizes_of b) (num b b_offset)) ((num b s_offset - num b b_offset) * slot_size)
          (omega arith) (λ i lo hi. h.free_slots i lo (omega arith));
      rest_records =
          byte-zero b (rec_offset (sizes_of b) (num b u_offset)) ((num b j_offset - num b u_offset) * rec_size) (omega arith)
          (λ i lo hi. h.free_records i lo (omega arith));
    }

layout-shape : (g : ℕ) (b : List ℕ) → Outline b → sizes_as g (sizes_of b) ≡ true → layout_as g b ≡ true
unfolding layout_as
layout-shape g b h z =
    let len = h.len in
    rw (le-leb header_size (length b) (omega arith), z)
    (eq-eqb (length b) (book_size (sizes_of b)) len)

-- ---- in form as a book of layout g

-- such bytes are those of the book that they say, and that book meets its conditions
pub holds_as : (g : ℕ) (b : List ℕ) → ((i : ℕ) → get_or b i 0 < 256) → form_as g b ≡ 0 → HoldsWide (count_size g) b
unfolding book_of
holds_as g b small e =
    let t = form-parts g b e in
    let l = layout-facts g b t.0 in
    holds_outline b small (outline_parts b l (raw-parts b t.1)) (bounds_in l.sizes)

pub book_as : (g : ℕ) (b : List ℕ) → form_as g b ≡ 0 → (sizes_as g (book_of b).sizes ≡ true) × (book_ok (book_of b) ≡ true)
unfolding book_of
book_as g b e =
    let t = form-parts g b e in
    (sizes_in_lem g (sizes_of b) (layout-facts g b t.0).sizes, t.2)

-- a well-sized book in range that meets its conditions has bytes in form
pub bytes_as : (g : ℕ) (x : Book) → Sized x → sizes_as g x.sizes ≡ true → book_ok x ≡ true → form_as g (bytes x) ≡ 0
bytes_as g x s z e =
    let h = shape-bytes x s in
    parts-form g (bytes x) (layout-shape g (bytes x) h (rw (sizes-bytes x) z))
    (parts-raw (bytes x) (parts_outline (bytes x) h)) (rw (book-bytes x s) e)

-- ---- in form: what callers use

pub holds-form : (b : List ℕ) → ((i : ℕ) → get_or b i 0 < 256) → form_number b ≡ 0 → Holds b
holds-form b small e = holds_as current b small e

pub book-form : (b : List ℕ) → form_number b ≡ 0 → (sizes_ok (book_of b).sizes ≡ true) × (book_ok (book_of b) ≡ true)
book-form b e = book_as current b e

pub form-bytes : (x : Book) → Sized x → sizes_ok x.sizes ≡ true → book_ok x ≡ true → form_number (bytes x) ≡ 0
form-bytes x s z e = bytes_as current x s z e
