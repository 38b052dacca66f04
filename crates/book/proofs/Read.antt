-- What stands at an offset of bytes, as a field of the book that they say: what each reader's proof takes.
use mathlib.Core.Path.{◌≡◌, refl, sym, ap, ◌∙◌}
use mathlib.Core.List.{List, []}
use Prim.Native.Nat.{ℕ, ◌+◌, ◌*◌, ◌≤◌, ◌<◌}
use native.Mathlib.Nat.{add_assoc, mul-le-mul_right, suc-mul}
use native.Mathlib.Omega.{arith}
use lib.Dec.{eqb}
use lib.ListN.{length, get_or}
use Rattle.words.specs.Blocks.{print_size, unmapped}
use Rattle.words.specs.Numbers.{two, num}
use Rattle.words.specs.Sections.{flat, tab, part}
use Rattle.words.proofs.SectionLaws.{length-tab, get_or-tab, part-tab, inside}
use Rattle.book.specs.Book.{volumes, free_entry, no_slot, no_rec, entry_at, cell_at, slot_at, rec_at, retention_of}
use Rattle.book.specs.Layout.{n_offset, l_offset, s_offset, j_offset, b_offset, u_offset, day_offset, cursor_offset, retention_offset}
use Rattle.book.specs.Layout.{current, count_size, entry_offset, current_offset, maps_from, cell_offset, slot_offset, rec_offset, sizes_of}
use Rattle.book.specs.Layout.{count_in, entry_in, entry_of, cell_of, slot_of, rec_of, book_of, HoldsWide, Holds}
use Rattle.book.proofs.Back.{nums-part}
use Rattle.book.proofs.Widths.{offset-now, offset-same, entry-same}

module _ (b : List ℕ) where
  pub n-at : num b n_offset ≡ (book_of b).sizes.n
  unfolding book_of
  n-at = refl

  pub l-at : num b l_offset ≡ (book_of b).sizes.l
  unfolding book_of
  l-at = refl

  pub s-at : num b s_offset ≡ (book_of b).sizes.s
  unfolding book_of
  s-at = refl

  pub j-at : num b j_offset ≡ (book_of b).sizes.j
  unfolding book_of
  j-at = refl

  pub b_at : num b b_offset ≡ length (book_of b).slots
  unfolding book_of
  b_at = sym (length-tab (num b b_offset) (λ q. slot_of b (slot_offset (sizes_of b) q)))

  pub u_at : num b u_offset ≡ length (book_of b).records
  unfolding book_of
  u_at = sym (length-tab (num b u_offset) (λ q. rec_of b (rec_offset (sizes_of b) q)))

  pub day-at : num b day_offset ≡ (book_of b).day
  unfolding book_of
  day-at = refl

  pub cursor-at : num b cursor_offset ≡ (book_of b).cursor
  unfolding book_of
  cursor-at = refl

  pub retention-at : (v : ℕ) → v < volumes → num b (retention_offset v) ≡ retention_of (book_of b) v
  unfolding book_of
  retention-at v hv = sym (get_or-tab volumes (λ v. num b (retention_offset v)) v 0 hv)

  pub entry-at : (g p i : ℕ) → HoldsWide (count_size g) b → p < (book_of b).sizes.n → i ≡ entry_offset g p
      → entry_in g b i ≡ entry_at (book_of b).entries p
  unfolding book_of
  entry-at g p i h hp e =
      let z = num b 0 in
      ap (λ (at : ℕ). entry_in g b at) (e ∙ sym (offset-same z g h.wide p))
      ∙ sym (entry-same z g h.wide b (entry_offset z p))
      ∙ sym (get_or-tab (num b n_offset) (entry_of b) p free_entry hp)

  -- where an entry of today's layout has its fields
  module _ (p i : ℕ) (h : Holds b) (hp : p < (book_of b).sizes.n) (e : i ≡ current_offset p) where
    here : entry_in current b i ≡ entry_at (book_of b).entries p
    here = entry-at current p i h hp (e ∙ offset-now p)

    pub count_at : count_in current b i ≡ (entry_at (book_of b).entries p).count
    count_at = rw (← here)

    pub held_at : eqb (get_or b (i + count_size current) 0) 1 ≡ (entry_at (book_of b).entries p).held
    held_at = rw (← here)

    pub expiry-at : num b (i + (count_size current + 1)) ≡ (entry_at (book_of b).entries p).expiry
    expiry-at = rw (← here)

    pub print-at : part b (i + (count_size current + 3)) print_size ≡ (entry_at (book_of b).entries p).print
    print-at =
        rw (← here)
        (sym (part-tab print_size b (i + (count_size current + 3)) (λ k. get_or b (i + (count_size current + 3) + k) 0)
        (omega (arith, h)) (λ k hk. refl)))

  pub cell-at : (v l i : ℕ) → v < volumes → l < (book_of b).sizes.l → i ≡ cell_offset (book_of b).sizes v l
      → num b i ≡ cell_at (book_of b).maps v l
  unfolding book_of
  cell-at v l i hv hl e =
      rw (e, get_or-tab volumes (λ v. tab (num b l_offset) (cell_of b v)) v [] hv, get_or-tab (num b l_offset) (cell_of b v) l unmapped hl)

  pub slot-at : (q i : ℕ) → q < length (book_of b).slots → i ≡ slot_offset (book_of b).sizes q → slot_of b i ≡ slot_at (book_of b).slots q
  unfolding book_of
  slot-at q i hq e = rw e (sym (get_or-tab (num b b_offset) (λ q. slot_of b (slot_offset (sizes_of b) q)) q no_slot (rw b_at hq)))

  pub rec-at : (q i : ℕ) → q < length (book_of b).records → i ≡ rec_offset (book_of b).sizes q → rec_of b i ≡ rec_at (book_of b).records q
  unfolding book_of
  rec-at q i hq e = rw e (sym (get_or-tab (num b u_offset) (λ q. rec_of b (rec_offset (sizes_of b) q)) q no_rec (rw u_at hq)))

-- cell l of row v, both bytes, in maps of w cells
pub cell_room : (v l w : ℕ) → v < volumes → l < w → v * (w * 2) + (l * 2 + 1) < volumes * (w * 2)
cell_room v l w hv hl = inside v (l * 2 + 1) volumes (w * 2) hv (omega arith)

-- row v, in maps of w cells
pub row_room : (v w : ℕ) → v < volumes → v * (w * 2) + w * 2 ≤ volumes * (w * 2)
row_room v w hv = omega (arith, mul-le-mul_right (w * 2) hv, suc-mul v (w * 2))

pub row_at : (b : List ℕ) (v i : ℕ) → ((i : ℕ) → get_or b i 0 < 256) → Holds b → v < volumes
    → i ≡ maps_from (book_of b).sizes + v * ((book_of b).sizes.l * 2)
    → part b i ((book_of b).sizes.l * 2) ≡ flat two (get_or (book_of b).maps v [])
unfolding book_of
row_at b v i small h hv e =
    let l = num b l_offset in
    rw (get_or-tab volumes (λ v. tab l (cell_of b v)) v [] hv)
    (sym (nums-part b small l i (cell_of b v) (omega (arith, h.len, row_room v l hv, e))
    (λ c hc. rw e (ap (λ (a : ℕ). num b a) (sym (add_assoc (maps_from (sizes_of b)) (v * (l * 2)) (c * 2)))))))
