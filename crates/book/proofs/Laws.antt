-- The first law of the layout: what a book's bytes say is that book.
use mathlib.Core.Path.{◌≡◌, refl, ap, ◌∙◌}
use mathlib.Core.Bool.{Bool, true, false}
use mathlib.Core.List.{[], ◌∷◌, ◌++◌}
use Prim.Native.Nat.{ℕ, suc, ◌+◌, ◌<◌, ◌/◌, ◌%◌}
use native.Mathlib.Nat.{add-zero}
use native.Mathlib.Omega.{arith}
use lib.Dec.{eqb}
use lib.ListN.{length, get_or}
use Rattle.words.specs.Blocks.{print_size, unmapped}
use Rattle.words.specs.Choice.{when◌then◌else◌}
use Rattle.words.specs.Numbers.{two, num}
use Rattle.words.proofs.NumberLaws.{two_back}
use Rattle.words.specs.Sections.{flat, tab}
use Rattle.words.proofs.SectionLaws.{tab-list, get_or-fit}
use Rattle.book.specs.Book.{volumes, Entry, Book, free_entry, no_slot, no_rec, entry_at, cell_at, slot_at, rec_at, retention_of, Sized}
use Rattle.book.specs.Layout.{header_size, entry_size, slot_size, rec_size, n_offset, l_offset, s_offset, j_offset, b_offset, u_offset}
use Rattle.book.specs.Layout.{day_offset}
use Rattle.book.specs.Layout.{cursor_offset, zero_offset, retention_offset, entry_offset, cell_offset, slot_offset, rec_offset, state_byte}
use Rattle.book.specs.Layout.{rest_bytes, entry_bytes, slot_bytes, rec_bytes, header_words, bytes, sizes_of, entry_in, entry_of, slot_of}
use Rattle.book.specs.Layout.{rec_of, book_of}
use Rattle.book.proofs.Bytes.{get-head, get-retention, get-entry, get-cell, get-slot, get-rec}

-- a state's byte read back
state-back : (h : Bool) → eqb (state_byte h) 1 ≡ h
state-back true = refl
state-back false = refl

module _ (x : Book) where
  -- ---- the header's numbers

  num-head : (k v : ℕ) → k + 1 < header_size → get_or (flat two (header_words x)) k 0 ≡ v % 256
      → get_or (flat two (header_words x)) (k + 1) 0 ≡ v / 256
      → num (bytes x) k ≡ v
  num-head k v h e₀ e₁ = rw (get-head x k (omega arith), get-head x (k + 1) h, e₀, e₁) (two_back v)

  pub num-layout : num (bytes x) 0 ≡ x.sizes.layout
  num-layout = num-head 0 x.sizes.layout (omega arith) refl refl

  pub num-n : num (bytes x) n_offset ≡ x.sizes.n
  num-n = num-head n_offset x.sizes.n (omega arith) refl refl

  pub num-l : num (bytes x) l_offset ≡ x.sizes.l
  num-l = num-head l_offset x.sizes.l (omega arith) refl refl

  pub num-s : num (bytes x) s_offset ≡ x.sizes.s
  num-s = num-head s_offset x.sizes.s (omega arith) refl refl

  pub num-j : num (bytes x) j_offset ≡ x.sizes.j
  num-j = num-head j_offset x.sizes.j (omega arith) refl refl

  pub num_b : num (bytes x) b_offset ≡ length x.slots
  num_b = num-head b_offset (length x.slots) (omega arith) refl refl

  pub num_u : num (bytes x) u_offset ≡ length x.records
  num_u = num-head u_offset (length x.records) (omega arith) refl refl

  pub num-day : num (bytes x) day_offset ≡ x.day
  num-day = num-head day_offset x.day (omega arith) refl refl

  pub num-cursor : num (bytes x) cursor_offset ≡ x.cursor
  num-cursor = num-head cursor_offset x.cursor (omega arith) refl refl

  pub num-zero : num (bytes x) zero_offset ≡ 0
  num-zero = num-head zero_offset 0 (omega arith) refl refl

  pub sizes-bytes : sizes_of (bytes x) ≡ x.sizes
  sizes-bytes = λ i. record { layout = num-layout i; n = num-n i; l = num-l i; s = num-s i; j = num-j i }

  -- ---- the elements

  retention-back : (v : ℕ) → v < volumes → num (bytes x) (retention_offset v) ≡ retention_of x v
  retention-back v hv =
      rw (
        get-retention x v 0 (retention_offset v) hv (omega arith) (omega arith),
        get-retention x v 1 (retention_offset v + 1) hv (omega arith) (omega arith),
      )
      (two_back (retention_of x v))

  -- an entry whose bytes stand at `at`, with a count of one byte and of two
  narrow-from : (at : ℕ) (e : Entry) → length e.print ≡ print_size
      → ((j i : ℕ) → j < 20 → i ≡ at + j → get_or (bytes x) i 0 ≡ get_or ((e.count ∷ []) ++ rest_bytes e) j 0) → entry_in 1 (bytes x) at ≡ e
  narrow-from at e hs get =
      let held : eqb (get_or (bytes x) (at + 1) 0) 1 ≡ e.held = rw (get 1 (at + 1) (omega arith) (omega arith)) (state-back e.held) in
      let expiry : num (bytes x) (at + 2) ≡ e.expiry =
      rw (get 2 (at + 2) (omega arith) (omega arith), get 3 (at + 2 + 1) (omega arith) (omega arith)) (two_back e.expiry) in
      let print : tab print_size (λ i. get_or (bytes x) (at + 4 + i) 0) ≡ e.print =
      tab-list print_size (λ i. get_or (bytes x) (at + 4 + i) 0) e.print 0 hs
      (λ i hi. get (suc (suc (suc (suc i)))) (at + 4 + i) (omega arith) (omega arith) ∙ get_or-fit 0 print_size e.print i hi)
      in
      λ i. record { count = get 0 at (omega arith) (omega arith) i; held = held i; expiry = expiry i; print = print i }

  wide_from : (at : ℕ) (e : Entry) → length e.print ≡ print_size
      → ((j i : ℕ) → j < 21 → i ≡ at + j → get_or (bytes x) i 0 ≡ get_or (two e.count ++ rest_bytes e) j 0) → entry_in 2 (bytes x) at ≡ e
  wide_from at e hs get =
      let count : num (bytes x) at ≡ e.count =
      rw (get 0 at (omega arith) (omega arith), get 1 (at + 1) (omega arith) (omega arith)) (two_back e.count) in
      let held : eqb (get_or (bytes x) (at + 2) 0) 1 ≡ e.held = rw (get 2 (at + 2) (omega arith) (omega arith)) (state-back e.held) in
      let expiry : num (bytes x) (at + 3) ≡ e.expiry =
      rw (get 3 (at + 3) (omega arith) (omega arith), get 4 (at + 3 + 1) (omega arith) (omega arith)) (two_back e.expiry) in
      let print : tab print_size (λ i. get_or (bytes x) (at + 5 + i) 0) ≡ e.print =
      tab-list print_size (λ i. get_or (bytes x) (at + 5 + i) 0) e.print 0 hs
      (λ i hi. get (suc (suc (suc (suc (suc i))))) (at + 5 + i) (omega arith) (omega arith) ∙ get_or-fit 0 print_size e.print i hi)
      in
      λ i. record { count = count i; held = held i; expiry = expiry i; print = print i }

  -- in layout g
  entry-from : (g at : ℕ) (e : Entry) → length e.print ≡ print_size
      → ((j i : ℕ) → j < entry_size g → i ≡ at + j → get_or (bytes x) i 0 ≡ get_or (entry_bytes g e) j 0) → entry_in g (bytes x) at ≡ e
  unfolding entry_size
  entry-from g at e hs = go (eqb g 1)
    where
      go : (t : Bool)
          → ((j i : ℕ) → j < (when t then 1 else 2) + 19 → i ≡ at + j
          → get_or (bytes x) i 0 ≡ get_or ((when t then e.count ∷ [] else two e.count) ++ rest_bytes e) j 0)
          → record {
            count = when t then get_or (bytes x) at 0 else num (bytes x) at;
            held = eqb (get_or (bytes x) (at + (when t then 1 else 2)) 0) 1;
            expiry = num (bytes x) (at + ((when t then 1 else 2) + 1));
            print = tab print_size (λ i. get_or (bytes x) (at + ((when t then 1 else 2) + 3) + i) 0);
          } ≡ e
      go true get = narrow-from at e hs get
      go false get = wide_from at e hs get

  entry-back : (p : ℕ) → p < x.sizes.n → length (entry_at x.entries p).print ≡ print_size
      → entry_in x.sizes.layout (bytes x) (entry_offset x.sizes.layout p) ≡ entry_at x.entries p
  entry-back p hp hs =
      let g = x.sizes.layout in
      entry-from g (entry_offset g p) (entry_at x.entries p) hs (λ j i hj e. get-entry x p j i hp hj e)

  cell-back : (v l : ℕ) → v < volumes → l < x.sizes.l → num (bytes x) (cell_offset x.sizes v l) ≡ cell_at x.maps v l
  cell-back v l hv hl =
      let at = cell_offset x.sizes v l in
      rw (get-cell x v l 0 at hv hl (omega arith) (omega arith), get-cell x v l 1 (at + 1) hv hl (omega arith) (omega arith))
      (two_back (cell_at x.maps v l))

  slot-num : (q j v : ℕ) → q < x.sizes.s → j + 1 < slot_size
      → get_or (slot_bytes (slot_at x.slots q)) j 0 ≡ v % 256 → get_or (slot_bytes (slot_at x.slots q)) (j + 1) 0 ≡ v / 256
      → num (bytes x) (slot_offset x.sizes q + j) ≡ v
  slot-num q j v hq hj e₀ e₁ =
      let at = slot_offset x.sizes q in
      rw (get-slot x q j (at + j) hq (omega arith) refl, get-slot x q (j + 1) (at + j + 1) hq hj (omega arith), e₀, e₁) (two_back v)

  slot-back : (q : ℕ) → q < x.sizes.s → slot_of (bytes x) (slot_offset x.sizes q) ≡ slot_at x.slots q
  slot-back q hq =
      let t = slot_at x.slots q in
      let at = slot_offset x.sizes q in
      λ i. record {
        volume = get-slot x q 0 at hq (omega arith) (omega arith) i;
        retire = (ap (λ (k : ℕ). eqb k 1) (get-slot x q 1 (at + 1) hq (omega arith) refl) ∙ state-back t.retire) i;
        day = slot-num q 2 t.day hq (omega arith) refl refl i;
        first = slot-num q 4 t.first hq (omega arith) refl refl i;
        number = slot-num q 6 t.number hq (omega arith) refl refl i;
      }

  rec-num : (q j v : ℕ) → q < x.sizes.j → j + 1 < rec_size
      → get_or (rec_bytes (rec_at x.records q)) j 0 ≡ v % 256 → get_or (rec_bytes (rec_at x.records q)) (j + 1) 0 ≡ v / 256
      → num (bytes x) (rec_offset x.sizes q + j) ≡ v
  rec-num q j v hq hj e₀ e₁ =
      let at = rec_offset x.sizes q in
      rw (get-rec x q j (at + j) hq (omega arith) refl, get-rec x q (j + 1) (at + j + 1) hq hj (omega arith), e₀, e₁) (two_back v)

  rec-back : (q : ℕ) → q < x.sizes.j → rec_of (bytes x) (rec_offset x.sizes q) ≡ rec_at x.records q
  rec-back q hq =
      let r = rec_at x.records q in
      let lbn : num (bytes x) (rec_offset x.sizes q) ≡ r.lbn = rw add-zero at (rec-num q 0 r.lbn hq (omega arith) refl refl) in
      λ i. record {
        lbn = lbn i;
        before = rec-num q 2 r.before hq (omega arith) refl refl i;
        after = rec-num q 4 r.after hq (omega arith) refl refl i;
      }

  -- ---- the book

  pub book-bytes : Sized x → book_of (bytes x) ≡ x
  unfolding book_of
  book-bytes s =
      let b = bytes x in
      let z = x.sizes in
      let rt : tab volumes (λ v. num b (retention_offset v)) ≡ x.retentions =
      tab-list volumes (λ v. num b (retention_offset v)) x.retentions 0 s.retentions retention-back
      in
      let es : tab (num b n_offset) (entry_of b) ≡ x.entries =
      ap (λ (g : ℕ). tab (num b n_offset) (λ p. entry_in g b (entry_offset g p))) num-layout
      ∙ rw num-n (tab-list z.n (λ p. entry_in z.layout b (entry_offset z.layout p)) x.entries free_entry s.entries
      (λ p hp. entry-back p hp (s.prints p hp)))
      in
      let ms : tab volumes (λ v. tab (num b l_offset) (λ l. num b (cell_offset (sizes_of b) v l))) ≡ x.maps =
      rw (num-layout, num-n, num-l)
      (tab-list volumes (λ v. tab z.l (λ l. num b (cell_offset z v l))) x.maps [] s.maps
      (λ v hv. tab-list z.l (λ l. num b (cell_offset z v l)) (get_or x.maps v []) unmapped (s.cells v hv)
      (λ l hl. cell-back v l hv hl)))
      in
      let ts : tab (num b b_offset) (λ q. slot_of b (slot_offset (sizes_of b) q)) ≡ x.slots =
      rw (num-layout, num-n, num-l, num_b)
      (tab-list (length x.slots) (λ q. slot_of b (slot_offset z q)) x.slots no_slot refl (λ q hq. slot-back q (omega (arith, s.slots))))
      in
      let rs : tab (num b u_offset) (λ q. rec_of b (rec_offset (sizes_of b) q)) ≡ x.records =
      rw (num-layout, num-n, num-l, num-s, num_u)
      (tab-list (length x.records) (λ q. rec_of b (rec_offset z q)) x.records no_rec refl
      (λ q hq. rec-back q (omega (arith, s.records))))
      in
      λ i. record {
        sizes = sizes-bytes i;
        day = num-day i;
        cursor = num-cursor i;
        retentions = rt i;
        entries = es i;
        maps = ms i;
        slots = ts i;
        records = rs i;
      }
