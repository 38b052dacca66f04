-- The bytes of a well-sized book have the shape of one.
use mathlib.Core.Path.{◌≡◌, refl, sym, ap, subst, ◌∙◌}
use mathlib.Core.Bool.{Bool, true, false}
use mathlib.Core.List.{List, [], ◌∷◌, ◌++◌}
use Prim.Native.Nat.{ℕ, ◌+◌, ◌-◌, ◌≤◌, ◌<◌, ◌/◌, ◌%◌}
use native.Mathlib.Omega.{arith}
use lib.Dec.{eqb}
use lib.ListN.{length, get_or, get_or-replicate, get_or-eq_default}
use Rattle.words.specs.Choice.{when◌then◌else◌}
use Rattle.words.specs.Numbers.{two}
use Rattle.book.specs.Book.{Sizes, Entry, Slot, Rec, Book, no_slot, no_rec, entry_at, slot_at, rec_at, Sized}
use Rattle.book.specs.Layout.{count_size, entry_size, slot_size, rec_size, entry_offset, slots_from, slot_offset, records_from, rec_offset}
use Rattle.book.specs.Layout.{book_size, state_byte}
use Rattle.book.specs.Layout.{rest_bytes, entry_bytes, slot_bytes, rec_bytes, bytes}
use Rattle.book.proofs.Bytes.{length-bytes, get-entry, get-slot, get-rec}
use Rattle.book.proofs.Laws.{num-layout, num-n, num-l, num-s, num-j, num_b, num_u, num-zero}
use Rattle.book.proofs.Outline.{Outline}
use Rattle.book.proofs.FreshBook.{slot-zero, rec_zero}

state-small : (h : Bool) → state_byte h ≤ 1
state-small true = omega arith
state-small false = omega arith

state-byte-at : (g : ℕ) (e : Entry) → get_or (entry_bytes g e) (count_size g) 0 ≡ state_byte e.held
state-byte-at g e = go (eqb g 1)
  where
    go : (t : Bool) → get_or ((when t then e.count ∷ [] else two e.count) ++ rest_bytes e) (when t then 1 else 2) 0 ≡ state_byte e.held
    go true = refl
    go false = refl

module _ (x : Book) (s : Sized x) where
  abbrev z : Sizes
  z = x.sizes

  free-slots : (i : ℕ) → slot_offset z (length x.slots) ≤ i → i < records_from z → get_or (bytes x) i 0 ≡ 0
  free-slots i h k =
      let q = (i - slots_from z) / slot_size in
      let j = (i - slots_from z) % slot_size in
      let none : slot_at x.slots q ≡ no_slot = get_or-eq_default x.slots no_slot (omega arith) in
      get-slot x q j i (omega arith) (omega arith) (omega arith)
      ∙ ap (λ (t : Slot). get_or (slot_bytes t) j 0) none
      ∙ ap (λ (l : List ℕ). get_or l j 0) slot-zero
      ∙ get_or-replicate slot_size j 0 0 (omega arith)

  free-records : (i : ℕ) → rec_offset z (length x.records) ≤ i → i < book_size z → get_or (bytes x) i 0 ≡ 0
  free-records i h k =
      let q = (i - records_from z) / rec_size in
      let j = (i - records_from z) % rec_size in
      let none : rec_at x.records q ≡ no_rec = get_or-eq_default x.records no_rec (omega arith) in
      get-rec x q j i (omega arith) (omega arith) (omega arith)
      ∙ ap (λ (r : Rec). get_or (rec_bytes r) j 0) none
      ∙ ap (λ (l : List ℕ). get_or l j 0) rec_zero
      ∙ get_or-replicate rec_size j 0 0 (omega arith)

  state-at : (p : ℕ) → p < z.n → get_or (bytes x) (entry_offset z.layout p + count_size z.layout) 0 ≤ 1
  unfolding entry_size
  state-at p hp =
      let g = z.layout in
      let e = entry_at x.entries p in
      rw (get-entry x p (count_size g) (entry_offset g p + count_size g) hp (omega arith) refl, state-byte-at g e) (state-small e.held)

  pub shape-bytes : Outline (bytes x)
  shape-bytes =
      record {
        len = rw (num-layout x, num-n x, num-l x, num-s x, num-j x) (length-bytes x);
        spare = num-zero x;
        slots = rw (num_b x, num-s x) s.slots;
        records = rw (num_u x, num-j x) s.records;
        states =
            λ p. rw (num-n x) (λ hp. subst (λ (g : ℕ). get_or (bytes x) (entry_offset g p + count_size g) 0 ≤ 1) (sym (num-layout x))
            (state-at p hp));
        seconds =
            λ q. rw (num-layout x, num-n x, num-l x, num_b x)
            (λ hq. rw (get-slot x q 1 (slot_offset z q + 1) (omega (arith, s.slots)) (omega arith) refl)
            (state-small (slot_at x.slots q).retire));
        free_slots = λ i. rw (num-layout x, num-n x, num-l x, num-s x, num_b x) (free-slots i);
        free_records = λ i. rw (num-layout x, num-n x, num-l x, num-s x, num-j x, num_u x) (free-records i);
      }
