-- What a store into a book's bytes does to the book: one law for each writer.
use mathlib.Core.Path.{◌≡◌, refl, sym, ap, ◌∙◌}
use mathlib.Core.List.{List, [], ◌∷◌, ◌++◌}
use Prim.Native.Nat.{ℕ, ◌+◌, ◌*◌, ◌≤◌, ◌<◌}
use native.Mathlib.Nat.{add-zero, mul-le-mul_right, suc-mul}
use native.Mathlib.Omega.{arith}
use lib.ListN.{length, get_or, set, length-append}
use lib.Seq.{sets}
use Rattle.words.specs.Blocks.{unmapped}
use Rattle.words.specs.Lists.{joined}
use Rattle.words.specs.Numbers.{two}
use Rattle.words.proofs.SectionLaws.{start, sets-joined, sets_sect, sets_end, inside}
use Rattle.words.specs.Sections.{flat, fit}
use Rattle.book.specs.Book.{volumes, Entry, Slot, Rec, Book, free_entry, no_slot, no_rec, entry_at}
use Rattle.book.specs.Layout.{header_size, entry_size, slot_size, rec_size, b_offset, u_offset, day_offset, cursor_offset, retention_offset}
use Rattle.book.specs.Layout.{entries_from, entry_offset, maps_from, cell_offset, slots_from, slot_offset, records_from, rec_offset}
use Rattle.book.specs.Layout.{entry_bytes, map_bytes, slot_bytes, rec_bytes, header_words, sections, bytes}
use Rattle.book.specs.Next.{with_day, with_cursor, with_retention, with_entries, with_maps, with_slot, with_record, with_cell}
use Rattle.book.proofs.Bytes.{two_size, entry-size, map-size, slot-size, rec-size, retentions-long, entries-long, maps-long}
use Rattle.book.proofs.Bytes.{slots-long, records-long, start-entries, start-maps, start-slots, start-records}

module _ (x : Book) where
  -- a store at i is one at j of section k, which starts at o and has m bytes
  set_in : (k o m j i : ℕ) (vs : List ℕ) → k < 6 → start (sections x) k ≡ o → length (get_or (sections x) k []) ≡ m
      → j + length vs ≤ m → i ≡ o + j
      → sets (bytes x) i vs ≡ joined (set (sections x) k (sets (get_or (sections x) k []) j vs))
  unfolding bytes
  set_in k o m j i vs hk eo em h e = rw (e, ← eo) (sets-joined (sections x) k j vs hk (rw em h))

  -- ---- the header and the retentions

  pub set-day : (d : ℕ) → sets (bytes x) day_offset (two d) ≡ bytes (with_day d x)
  unfolding bytes with_day
  set-day d = set_in 0 0 header_size day_offset day_offset (two d) (omega arith) refl refl (omega arith) (omega arith)

  pub set-cursor : (k : ℕ) → sets (bytes x) cursor_offset (two k) ≡ bytes (with_cursor k x)
  unfolding bytes with_cursor
  set-cursor k = set_in 0 0 header_size cursor_offset cursor_offset (two k) (omega arith) refl refl (omega arith) (omega arith)

  pub set-retention : (v r : ℕ) → v < volumes → length x.retentions ≡ volumes
      → sets (bytes x) (retention_offset v) (two r) ≡ bytes (with_retention v r x)
  unfolding bytes with_retention
  set-retention v r hv hs =
      set_in 1 header_size (volumes * 2) (v * 2 + 0) (retention_offset v) (two r) (omega arith) refl (retentions-long x)
      (omega arith) (omega arith)
      ∙ ap (λ (s : List ℕ). joined (set (sections x) 1 s))
      (sets_sect 2 two two_size 0 volumes x.retentions v 0 (two r) r hv (omega arith) (omega arith) refl)

  -- ---- entries

  abbrev g : ℕ
  g = x.sizes.layout

  -- a store within entry p that makes it y
  pub set-entry : (p j i : ℕ) (vs : List ℕ) (y : Entry) → p < x.sizes.n → length x.entries ≡ x.sizes.n → j + length vs ≤ entry_size g
      → i ≡ entry_offset g p + j → sets (entry_bytes g (entry_at x.entries p)) j vs ≡ entry_bytes g y
      → sets (bytes x) i vs ≡ bytes (with_entries (set x.entries p y) x)
  unfolding bytes with_entries
  set-entry p j i vs y hp hs hj e q =
      let k = entry_size g in
      set_in 2 entries_from (x.sizes.n * k) (p * k + j) i vs (omega arith) (start-entries x)
      (entries-long x) (omega (arith, mul-le-mul_right k hp, suc-mul p k)) (omega arith)
      ∙ ap (λ (s : List ℕ). joined (set (sections x) 2 s))
      (sets_sect k (entry_bytes g) (entry-size g) free_entry x.sizes.n x.entries p j vs y hp (omega arith) hj q)

  -- ---- maps

  pub set-cell : (v l p i : ℕ) → v < volumes → l < x.sizes.l → length x.maps ≡ volumes → length (get_or x.maps v []) ≡ x.sizes.l
      → i ≡ cell_offset x.sizes v l → sets (bytes x) i (two p) ≡ bytes (with_cell v l p x)
  unfolding bytes with_maps
  set-cell v l p i hv hl hm hr e =
      let w = x.sizes.l * 2 in
      let row = get_or x.maps v [] in
      let room : v * w + (l * 2 + 1) < volumes * w = inside v (l * 2 + 1) volumes w hv (omega arith) in
      let one : sets (map_bytes x.sizes.l row) (l * 2) (two p) ≡ map_bytes x.sizes.l (set row l p) =
      rw (← add-zero (l * 2)) (sets_sect 2 two two_size unmapped x.sizes.l row l 0 (two p) p hl (omega arith) (omega arith) refl)
      in
      set_in 3 (maps_from x.sizes) (volumes * w) (v * w + l * 2) i (two p) (omega arith) (start-maps x) (maps-long x) (omega arith) e
      ∙ ap (λ (s : List ℕ). joined (set (sections x) 3 s))
      (sets_sect w (map_bytes x.sizes.l) (map-size x.sizes.l) [] volumes x.maps v (l * 2) (two p) (set row l p)
      hv (omega arith) (omega arith) one)

  -- ---- the next slot with B, the next record with U

  pub add-slot : (t : Slot) (i b : ℕ) → length x.slots < x.sizes.s → i ≡ slot_offset x.sizes (length x.slots)
      → b ≡ length x.slots + 1 → sets (sets (bytes x) i (slot_bytes t)) b_offset (two b) ≡ bytes (with_slot t x)
  unfolding bytes with_slot
  add-slot t i b h e eb =
      let ts : List ℕ = flat slot_bytes (fit no_slot x.sizes.s (x.slots ++ t ∷ [])) in
      let eb' : b ≡ length (x.slots ++ t ∷ []) = eb ∙ sym (length-append x.slots (t ∷ [])) in
      let here : sets (bytes x) i (slot_bytes t) ≡ joined (set (sections x) 4 ts) =
      set_in 4 (slots_from x.sizes) (x.sizes.s * slot_size) (length x.slots * slot_size) i (slot_bytes t)
      (omega arith) (start-slots x) (slots-long x) (omega arith) e
      ∙ ap (λ (s : List ℕ). joined (set (sections x) 4 s))
      (sets_end slot_size slot_bytes slot-size no_slot x.sizes.s x.slots (slot_bytes t) t h (omega arith) refl)
      in
      ap (λ (b₁ : List ℕ). sets b₁ b_offset (two b)) here
      ∙ sets-joined (set (sections x) 4 ts) 0 b_offset (two b) (omega arith) (omega arith)
      ∙ ap (λ (k : ℕ). joined (set (set (sections x) 4 ts) 0 (sets (flat two (header_words x)) b_offset (two k)))) eb'

  pub add-record : (r : Rec) (i u : ℕ) → length x.records < x.sizes.j → i ≡ rec_offset x.sizes (length x.records)
      → u ≡ length x.records + 1 → sets (sets (bytes x) i (rec_bytes r)) u_offset (two u) ≡ bytes (with_record r x)
  unfolding bytes with_record
  add-record r i u h e eu =
      let rs : List ℕ = flat rec_bytes (fit no_rec x.sizes.j (x.records ++ r ∷ [])) in
      let eu' : u ≡ length (x.records ++ r ∷ []) = eu ∙ sym (length-append x.records (r ∷ [])) in
      let here : sets (bytes x) i (rec_bytes r) ≡ joined (set (sections x) 5 rs) =
      set_in 5 (records_from x.sizes) (x.sizes.j * rec_size) (length x.records * rec_size) i (rec_bytes r)
      (omega arith) (start-records x) (records-long x) (omega arith) e
      ∙ ap (λ (s : List ℕ). joined (set (sections x) 5 s))
      (sets_end rec_size rec_bytes rec-size no_rec x.sizes.j x.records (rec_bytes r) r h (omega arith) refl)
      in
      ap (λ (b₁ : List ℕ). sets b₁ u_offset (two u)) here
      ∙ sets-joined (set (sections x) 5 rs) 0 u_offset (two u) (omega arith) (omega arith)
      ∙ ap (λ (k : ℕ). joined (set (set (sections x) 5 rs) 0 (sets (flat two (header_words x)) u_offset (two k)))) eu'
