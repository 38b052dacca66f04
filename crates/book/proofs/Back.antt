-- The second law of the layout: bytes that have the shape of a book are those of the book that they say.
use mathlib.Core.Path.{◌≡◌, refl, sym, ap, ◌∙◌}
use mathlib.Core.Bool.{Bool, true, false}
use mathlib.Core.List.{List, [], ◌∷◌, ◌++◌}
use Prim.Native.Nat.{ℕ, zero, suc, ◌+◌, ◌*◌, ◌≤◌, ◌<◌, ◌/◌, ◌%◌}
use native.Mathlib.Nat.{zero-add, add-zero, add_assoc, mul-le-mul_right, suc-mul}
use native.Mathlib.Numerals.{add-one}
use native.Mathlib.Omega.{arith}
use lib.Dec.{eqb, ltb}
use borrow.Author.Tests.{ltb-true, ltb-false}
use lib.ListN.{length, get_or}
use Rattle.words.specs.Blocks.{print_size, unmapped}
use Rattle.words.specs.Choice.{when◌then◌else◌}
use Rattle.words.specs.Lists.{joined}
use Rattle.words.specs.Numbers.{two, num}
use Rattle.words.specs.Sections.{flat, fit, tab, part}
use Rattle.words.proofs.SectionLaws.{length-tab, get_or-tab, part-add, part_cons, part-tab, flat-tab, fit-tab, fit_all, joined-parts}
use Rattle.book.specs.Book.{volumes, Sizes, free_entry, no_slot, no_rec, Sized}
use Rattle.book.specs.Layout.{header_size, count_size, entry_size, slot_size, rec_size, b_offset, u_offset, day_offset, cursor_offset}
use Rattle.book.specs.Layout.{retention_offset, entries_from, entry_offset, maps_from, slots_from, slot_offset, records_from, rec_offset}
use Rattle.book.specs.Layout.{state_byte, count_bytes, entry_bytes, map_bytes, slot_bytes, rec_bytes, bytes, sizes_of, count_in, entry_in}
use Rattle.book.specs.Layout.{entry_of, cell_of, slot_of, rec_of, book_of}
use Rattle.book.proofs.Outline.{Outline}

-- a state's byte, where it is 0 or 1
state-byte : (s : ℕ) → s ≤ 1 → state_byte (eqb s 1) ≡ s
state-byte zero h = refl
state-byte (suc zero) h = refl
state-byte (suc (suc s)) h = absurd (omega arith)

module _ (b : List ℕ) (small : (i : ℕ) → get_or b i 0 < 256) where
  -- ---- a number of two bytes, several, and the elements

  part-two : (i : ℕ) → i + 2 ≤ length b → get_or b i 0 ∷ get_or b (i + 1) 0 ∷ [] ≡ part b i 2
  part-two i h =
      sym (part_cons b i 1 (omega arith) ∙ ap (λ (r : List ℕ). get_or b i 0 ∷ r) (rw (part_cons b (suc i) 0 (omega arith), add-one i)))

  two-part : (i : ℕ) → i + 2 ≤ length b → two (num b i) ≡ part b i 2
  two-part i h =
      let low : num b i % 256 ≡ get_or b i 0 = omega (arith, small i) in
      let high : num b i / 256 ≡ get_or b (i + 1) 0 = omega (arith, small i) in
      rw (low, high) (part-two i h)

  -- k numbers from o
  pub nums-part : (k o : ℕ) (f : ℕ → ℕ) → o + k * 2 ≤ length b → ((c : ℕ) → c < k → f c ≡ num b (o + c * 2))
      → flat two (tab k f) ≡ part b o (k * 2)
  nums-part k o f h g = flat-tab k 2 two f b o (λ c hc. rw (g c hc) (two-part (o + c * 2) (omega arith)))

  -- a count, and what follows it c bytes further on: state, expiry and fingerprint
  count-part : (g o : ℕ) → o + count_size g ≤ length b → count_bytes g (count_in g b o) ≡ part b o (count_size g)
  count-part g o = go (eqb g 1)
    where
      go : (t : Bool) → o + (when t then 1 else 2) ≤ length b
          → (when t then (when t then get_or b o 0 else num b o) ∷ [] else two (when t then get_or b o 0 else num b o))
          ≡ part b o (when t then 1 else 2)
      go true h = sym (part_cons b o 0 (omega arith))
      go false h = two-part o h

  pub rest_part : (c o : ℕ) → o + (c + 19) ≤ length b → get_or b (o + c) 0 ≤ 1
      → state_byte (eqb (get_or b (o + c) 0) 1)
      ∷ (two (num b (o + (c + 1))) ++ fit 0 print_size (tab print_size (λ i. get_or b (o + (c + 3) + i) 0)))
      ≡ part b (o + c) 19
  rest_part c o h hs =
      let print : fit 0 print_size (tab print_size (λ i. get_or b (o + (c + 3) + i) 0)) ≡ part b (o + (c + 3)) print_size =
      fit_all 0 print_size (tab print_size (λ i. get_or b (o + (c + 3) + i) 0)) (length-tab print_size (λ i. get_or b (o + (c + 3) + i) 0))
      ∙ part-tab print_size b (o + (c + 3)) (λ i. get_or b (o + (c + 3) + i) 0) (omega arith) (λ i hi. refl)
      in
      let tail : part b (o + (c + 1)) 18 ≡ part b (o + (c + 1)) 2 ++ part b (o + (c + 1) + 2) print_size =
      part-add b (o + (c + 1)) 2 print_size in
      let three : o + (c + 1) + 2 ≡ o + (c + 3) = omega arith in
      let one : suc (o + c) ≡ o + (c + 1) = omega arith in
      let state = state-byte (get_or b (o + c) 0) hs in
      let expiry = two-part (o + (c + 1)) (omega arith) in
      (λ i. state i ∷ (expiry i ++ print i))
      ∙ sym (part_cons b (o + c) 18 (omega arith)
      ∙ ap (λ (r : List ℕ). get_or b (o + c) 0 ∷ r) (ap (λ (k : ℕ). part b k 18) one ∙ rw three at tail))

  entry-part : (g o : ℕ) → o + entry_size g ≤ length b → get_or b (o + count_size g) 0 ≤ 1
      → entry_bytes g (entry_in g b o) ≡ part b o (entry_size g)
  unfolding entry_size
  entry-part g o h hs =
      (λ i. count-part g o (omega arith) i ++ rest_part (count_size g) o h hs i) ∙ sym (part-add b o (count_size g) 19)

  slot-part : (o : ℕ) → o + slot_size ≤ length b → get_or b (o + 1) 0 ≤ 1 → slot_bytes (slot_of b o) ≡ part b o slot_size
  slot-part o h hs =
      let second = state-byte (get_or b (o + 1) 0) hs in
      let first = part-two o (omega arith) in
      let three : flat two (num b (o + 2) ∷ num b (o + 4) ∷ num b (o + 6) ∷ []) ≡ part b (o + 2) 6 =
      nums-part 3 (o + 2) (λ c. num b (o + (2 + c * 2))) (omega arith) (λ c hc. ap (λ (a : ℕ). num b a) (sym (add_assoc o 2 (c * 2))))
      in
      (λ i. get_or b o 0 ∷ second i ∷ three i) ∙ (λ i. first i ++ part b (o + 2) 6) ∙ sym (part-add b o 2 6)

  rec-part : (o : ℕ) → o + rec_size ≤ length b → rec_bytes (rec_of b o) ≡ part b o rec_size
  rec-part o h =
      let first : num b (o + 0) ≡ num b o = rw add-zero in
      rw first at (nums-part 3 o (λ c. num b (o + c * 2)) (omega arith) (λ c hc. refl))

  module _ (s : Outline b) where
    -- ---- the sections

    abbrev z : Sizes
    z = sizes_of b

    head-part : flat two (z.layout ∷ z.n ∷ z.l ∷ z.s ∷ z.j ∷ num b b_offset ∷ num b u_offset ∷ num b day_offset
        ∷ num b cursor_offset ∷ 0 ∷ [])
        ≡ part b 0 header_size
    head-part =
        (λ i. flat two
        (z.layout ∷ z.n ∷ z.l ∷ z.s ∷ z.j ∷ num b b_offset ∷ num b u_offset ∷ num b day_offset
        ∷ num b cursor_offset ∷ sym s.spare i ∷ []))
        ∙ nums-part 10 0 (λ c. num b (c * 2)) (omega (arith, s.len)) (λ c hc. rw zero-add)

    retentions-part : flat two (fit 0 volumes (tab volumes (λ v. num b (retention_offset v)))) ≡ part b header_size (volumes * 2)
    retentions-part =
        ap (λ (rs : List ℕ). flat two rs)
        (fit_all 0 volumes (tab volumes (λ v. num b (retention_offset v))) (length-tab volumes (λ v. num b (retention_offset v))))
        ∙ nums-part volumes header_size (λ v. num b (retention_offset v)) (omega (arith, s.len)) (λ v hv. refl)

    abbrev g : ℕ
    g = z.layout

    entries-part : flat (entry_bytes g) (fit free_entry z.n (tab z.n (entry_of b))) ≡ part b entries_from (z.n * entry_size g)
    entries-part =
        rw (fit_all free_entry z.n (tab z.n (entry_of b)) (length-tab z.n (entry_of b)))
        (flat-tab z.n (entry_size g) (entry_bytes g) (entry_of b) b entries_from
        (λ p hp. entry-part g (entry_offset g p) (omega (arith, s.len, mul-le-mul_right (entry_size g) hp, suc-mul p (entry_size g)))
        (s.states p hp)))

    abbrev row : ℕ → List ℕ
    row v = tab z.l (cell_of b v)

    maps-part : flat (map_bytes z.l) (fit [] volumes (tab volumes row)) ≡ part b (maps_from z) (volumes * (z.l * 2))
    maps-part =
        ap (λ (ms : List (List ℕ)). flat (map_bytes z.l) ms) (fit_all [] volumes (tab volumes row) (length-tab volumes row))
        ∙ flat-tab volumes (z.l * 2) (map_bytes z.l) row b (maps_from z)
        (λ v hv. rw (fit_all unmapped z.l (row v) (length-tab z.l (cell_of b v)))
        (nums-part z.l (maps_from z + v * (z.l * 2)) (cell_of b v)
        (omega (arith, s.len, mul-le-mul_right (z.l * 2) hv, suc-mul v (z.l * 2)))
        (λ l hl. ap (λ (a : ℕ). num b a) (sym (add_assoc (maps_from z) (v * (z.l * 2)) (l * 2))))))

    -- where nothing was written
    num-free : (i : ℕ) → get_or b i 0 ≡ 0 → get_or b (i + 1) 0 ≡ 0 → num b i ≡ 0
    num-free i e f = rw (e, f)

    slot-free : (q : ℕ) → num b b_offset ≤ q → q < z.s → slot_of b (slot_offset z q) ≡ no_slot
    unfolding no_slot
    slot-free q hb hs =
        let o = slot_offset z q in
        let at : (j : ℕ) → j < slot_size → (i : ℕ) → i ≡ o + j → get_or b i 0 ≡ 0 = λ j hj i e. s.free_slots i (omega arith) (omega arith) in
        λ i. record {
          volume = at 0 (omega arith) o (omega arith) i;
          retire = eqb (at 1 (omega arith) (o + 1) refl i) 1;
          day = num-free (o + 2) (at 2 (omega arith) (o + 2) refl) (at 3 (omega arith) (o + 2 + 1) (omega arith)) i;
          first = num-free (o + 4) (at 4 (omega arith) (o + 4) refl) (at 5 (omega arith) (o + 4 + 1) (omega arith)) i;
          number = num-free (o + 6) (at 6 (omega arith) (o + 6) refl) (at 7 (omega arith) (o + 6 + 1) (omega arith)) i;
        }

    second-small : (q : ℕ) → q < z.s → get_or b (slot_offset z q + 1) 0 ≤ 1
    second-small q hq = go (ltb q (num b b_offset)) refl
      where
        go : (t : Bool) → ltb q (num b b_offset) ≡ t → get_or b (slot_offset z q + 1) 0 ≤ 1
        go true e = s.seconds q (ltb-true q (num b b_offset) e)
        go false e =
            let zero = s.free_slots (slot_offset z q + 1) (omega (arith, ltb-false q (num b b_offset) e)) (omega arith) in omega arith

    slots-part : flat slot_bytes (fit no_slot z.s (tab (num b b_offset) (λ q. slot_of b (slot_offset z q))))
        ≡ part b (slots_from z) (z.s * slot_size)
    slots-part =
        rw (fit-tab no_slot (num b b_offset) z.s (λ q. slot_of b (slot_offset z q)) s.slots slot-free)
        (flat-tab z.s slot_size slot_bytes (λ q. slot_of b (slot_offset z q)) b (slots_from z)
        (λ q hq. slot-part (slot_offset z q) (omega (arith, s.len)) (second-small q hq)))

    rec-free : (q : ℕ) → num b u_offset ≤ q → q < z.j → rec_of b (rec_offset z q) ≡ no_rec
    unfolding no_rec
    rec-free q hu hq =
        let o = rec_offset z q in
        let at : (j : ℕ) → j < rec_size → (i : ℕ) → i ≡ o + j → get_or b i 0 ≡ 0 = λ j hj i e. s.free_records i (omega arith) (omega arith) in
        λ i. record {
          lbn = num-free o (at 0 (omega arith) o (omega arith)) (at 1 (omega arith) (o + 1) refl) i;
          before = num-free (o + 2) (at 2 (omega arith) (o + 2) refl) (at 3 (omega arith) (o + 2 + 1) (omega arith)) i;
          after = num-free (o + 4) (at 4 (omega arith) (o + 4) refl) (at 5 (omega arith) (o + 4 + 1) (omega arith)) i;
        }

    records-part : flat rec_bytes (fit no_rec z.j (tab (num b u_offset) (λ q. rec_of b (rec_offset z q))))
        ≡ part b (records_from z) (z.j * rec_size)
    records-part =
        rw (fit-tab no_rec (num b u_offset) z.j (λ q. rec_of b (rec_offset z q)) s.records rec-free)
        (flat-tab z.j rec_size rec_bytes (λ q. rec_of b (rec_offset z q)) b (records_from z)
        (λ q hq. rec-part (rec_offset z q) (omega (arith, s.len))))

    -- ---- the whole

    pub bytes-book : b ≡ bytes (book_of b)
    unfolding bytes book_of
    bytes-book =
        let lengths = header_size ∷ volumes * 2 ∷ z.n * entry_size g ∷ volumes * (z.l * 2) ∷ z.s * slot_size ∷ z.j * rec_size ∷ [] in
        let whole = sym (joined-parts lengths b 0 (omega (arith, s.len))) in
        let head =
        (λ i. flat two
        (z.layout ∷ z.n ∷ z.l ∷ z.s ∷ z.j ∷ length-tab (num b b_offset) (λ q. slot_of b (slot_offset z q)) i
        ∷ length-tab (num b u_offset) (λ q. rec_of b (rec_offset z q)) i ∷ num b day_offset ∷ num b cursor_offset ∷ 0 ∷ []))
        ∙ head-part
        in
        whole ∙ sym (λ i. joined (head i ∷ retentions-part i ∷ entries-part i ∷ maps-part i ∷ slots-part i ∷ records-part i ∷ []))

    pub sized-book : Sized (book_of b)
    unfolding book_of
    sized-book =
        record {
          retentions = length-tab volumes (λ v. num b (retention_offset v));
          entries = length-tab z.n (entry_of b);
          prints =
              λ p hp. rw (get_or-tab z.n (entry_of b) p free_entry hp)
              (length-tab print_size (λ i. get_or b (entry_offset g p + (count_size g + 3) + i) 0));
          maps = length-tab volumes row;
          cells = λ v hv. rw (get_or-tab volumes row v [] hv) (length-tab z.l (cell_of b v));
          slots = rw (length-tab (num b b_offset) (λ q. slot_of b (slot_offset z q))) s.slots;
          records = rw (length-tab (num b u_offset) (λ q. rec_of b (rec_offset z q))) s.records;
        }
