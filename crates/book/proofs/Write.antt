-- What bytes are after a store, as the book with one thing changed: what each writer's proof takes.
use mathlib.Core.Path.{◌≡◌, sym, ap, ◌∙◌}
use mathlib.Core.List.{List}
use Prim.Native.Nat.{ℕ, ◌+◌, ◌<◌}
use lib.ListN.{length, set, replicate}
use lib.Seq.{sets}
use Rattle.words.specs.Blocks.{print_size}
use Rattle.words.specs.Numbers.{two, put}
use Rattle.words.proofs.Filling.{put-sets}
use Rattle.book.specs.Book.{volumes, Slot, Rec, Book}
use Rattle.book.specs.Layout.{current, count_size, b_offset, u_offset, day_offset, cursor_offset, retention_offset, entry_offset}
use Rattle.book.specs.Layout.{current_offset, cell_offset, slot_offset, rec_offset, count_bytes, slot_bytes, rec_bytes, bytes, book_of}
use Rattle.book.specs.Layout.{Holds, Is}
use Rattle.book.specs.Next.{with_day, with_cursor, with_retention, with_entries, with_maps, with_slot, with_record, count_as, expiry_as}
use Rattle.book.specs.Next.{held_as, made_free, with_entry, with_cell}
use Rattle.book.proofs.FieldsWritten.{set-day, set-cursor, set-retention, set-cell, add-slot, add-record}
use Rattle.book.proofs.Entries.{set-count, set-expiry, set-held, set-freed}
use Rattle.book.proofs.Sizing.{sized-day, sized-cursor, sized-retention, sized-count, sized-expiry, sized-held, sized-freed}
use Rattle.book.proofs.Sizing.{sized-cell, sized-slot, sized-record}
use Rattle.book.proofs.Holding.{is-bytes, bounds-holds}
use Rattle.book.proofs.Widths.{offset-now, offset-same, count_same}

module _ {b : List ℕ} (h : Holds b) where
  abbrev x : Book
  x = book_of b

  -- a number put at an offset is its two bytes stored into the book's bytes
  put_same : (at v : ℕ) → put b at v ≡ sets (bytes x) at (two v)
  put_same at v = put-sets b at v ∙ ap (λ (l : List ℕ). sets l at (two v)) h.same

  pub is-day : {b₁ : List ℕ} (d : ℕ) → b₁ ≡ put b day_offset d → Is b₁ (with_day d x)
  unfolding with_day
  is-day d e = is-bytes (with_day d x) (sized-day x h.sized d) (bounds-holds h) (e ∙ put_same day_offset d ∙ set-day x d)

  pub is-cursor : {b₁ : List ℕ} (k : ℕ) → b₁ ≡ put b cursor_offset k → Is b₁ (with_cursor k x)
  unfolding with_cursor
  is-cursor k e = is-bytes (with_cursor k x) (sized-cursor x h.sized k) (bounds-holds h) (e ∙ put_same cursor_offset k ∙ set-cursor x k)

  pub is-retention : {b₁ : List ℕ} (v r : ℕ) → v < volumes → b₁ ≡ put b (retention_offset v) r → Is b₁ (with_retention v r x)
  unfolding with_retention
  is-retention v r hv e =
      is-bytes (with_retention v r x) (sized-retention x h.sized v r) (bounds-holds h)
      (e ∙ put_same (retention_offset v) r ∙ set-retention x v r hv h.sized.retentions)

  pub is-cell : {b₁ : List ℕ} (v l p i : ℕ) → v < volumes → l < x.sizes.l → i ≡ cell_offset x.sizes v l
      → b₁ ≡ put b i p → Is b₁ (with_cell v l p x)
  unfolding with_maps
  is-cell v l p i hv hl ei e =
      is-bytes (with_cell v l p x) (sized-cell x h.sized v l p hv) (bounds-holds h)
      (e ∙ put_same i p ∙ set-cell x v l p i hv hl h.sized.maps (h.sized.cells v hv) ei)

  -- ---- the entry of block p, at i

  module _ (p i : ℕ) (hp : p < x.sizes.n) (at : i ≡ current_offset p) where
    ei : i ≡ entry_offset x.sizes.layout p
    ei = at ∙ offset-now p ∙ sym (offset-same x.sizes.layout current h.wide p)

    pub is-count : {b₁ : List ℕ} (c : ℕ) → b₁ ≡ sets b i (count_bytes current c) → Is b₁ (with_entry (count_as c) p x)
    unfolding with_entries
    is-count c e =
        is-bytes (with_entry (count_as c) p x) (sized-count x h.sized p c hp) (bounds-holds h)
        (e ∙ ap (λ (l : List ℕ). sets l i (count_bytes current c)) h.same
        ∙ ap (λ (cs : List ℕ). sets (bytes x) i cs) (sym (count_same x.sizes.layout current h.wide c))
        ∙ set-count x p i hp h.sized.entries ei c)

    pub is-expiry : {b₁ : List ℕ} (d : ℕ) → b₁ ≡ put b (i + (count_size current + 1)) d → Is b₁ (with_entry (expiry_as d) p x)
    unfolding with_entries
    is-expiry d e =
        is-bytes (with_entry (expiry_as d) p x) (sized-expiry x h.sized p d hp) (bounds-holds h)
        (e ∙ put_same (i + (count_size current + 1)) d
        ∙ ap (λ (k : ℕ). sets (bytes x) (i + (k + 1)) (two d)) (sym h.wide)
        ∙ set-expiry x p i hp h.sized.entries ei d)

    -- a state and a fingerprint stored into b are stored into the book's bytes
    stored_same : (s : ℕ) (f : List ℕ)
        → sets (set b (i + count_size current) s) (i + (count_size current + 3)) f
        ≡ sets (set (bytes x) (i + count_size x.sizes.layout) s) (i + (count_size x.sizes.layout + 3)) f
    stored_same s f =
        ap (λ (l : List ℕ). sets (set l (i + count_size current) s) (i + (count_size current + 3)) f) h.same
        ∙ ap (λ (k : ℕ). sets (set (bytes x) (i + k) s) (i + (k + 3)) f) (sym h.wide)

    pub is_held : {b₁ : List ℕ} (f : List ℕ) → length f ≡ print_size
        → b₁ ≡ sets (set b (i + count_size current) 1) (i + (count_size current + 3)) f
        → Is b₁ (with_entry (held_as f) p x)
    unfolding with_entries
    is_held f hf e =
        is-bytes (with_entry (held_as f) p x) (sized-held x h.sized p f hf) (bounds-holds h)
        (e ∙ stored_same 1 f ∙ set-held x p i hp h.sized.entries ei f hf)

    pub is-freed : {b₁ : List ℕ} → b₁ ≡ sets (set b (i + count_size current) 0) (i + (count_size current + 3)) (replicate print_size 0)
        → Is b₁ (with_entry made_free p x)
    unfolding with_entries
    is-freed e =
        is-bytes (with_entry made_free p x) (sized-freed x h.sized p) (bounds-holds h)
        (e ∙ stored_same 0 (replicate print_size 0) ∙ set-freed x p i hp h.sized.entries ei)

  -- ---- from what the two stores left

  pub is-slot : {b₁ b₂ : List ℕ} (t : Slot) (i n : ℕ) → length x.slots < x.sizes.s → i ≡ slot_offset x.sizes (length x.slots)
      → n ≡ length x.slots + 1 → b₁ ≡ sets b i (slot_bytes t) → b₂ ≡ put b₁ b_offset n → Is b₂ (with_slot t x)
  unfolding with_slot
  is-slot {b₁} t i n hs ei en e₁ e₂ =
      is-bytes (with_slot t x) (sized-slot x h.sized t hs) (bounds-holds h)
      (e₂ ∙ put-sets b₁ b_offset n ∙ ap (λ (l : List ℕ). sets l b_offset (two n)) (e₁ ∙ ap (λ (l : List ℕ). sets l i (slot_bytes t)) h.same)
      ∙ add-slot x t i n hs ei en)

  pub is-record : {b₁ b₂ : List ℕ} (r : Rec) (i n : ℕ) → length x.records < x.sizes.j → i ≡ rec_offset x.sizes (length x.records)
      → n ≡ length x.records + 1 → b₁ ≡ sets b i (rec_bytes r) → b₂ ≡ put b₁ u_offset n → Is b₂ (with_record r x)
  unfolding with_record
  is-record {b₁} r i n hs ei en e₁ e₂ =
      is-bytes (with_record r x) (sized-record x h.sized r hs) (bounds-holds h)
      (e₂ ∙ put-sets b₁ u_offset n ∙ ap (λ (l : List ℕ). sets l u_offset (two n)) (e₁ ∙ ap (λ (l : List ℕ). sets l i (rec_bytes r)) h.same)
      ∙ add-record x r i n hs ei en)
