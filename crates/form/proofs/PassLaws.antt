-- Laws of specs/Passes.antt.
-- The sections' tests, together, are number 2's.
use Prim.Native.Nat.{ℕ, ◌+◌, ◌-◌, ◌*◌, ◌≤◌, ◌<◌}
use mathlib.Core.Path.{◌≡◌, refl, sym, ap, ◌∙◌}
use mathlib.Core.Bool.{Bool, true, false, ◌&&◌}
use mathlib.Core.List.{List}
use native.Mathlib.Omega.{arith}
use native.Mathlib.Decide.{dec_lt}
use native.Mathlib.Nat.{mul_assoc}
use lib.ListN.{length}
use borrow.Author.Tests.{lt-ltb}
use Rattle.words.proofs.Places.{all_weaker}
use Rattle.words.proofs.ChoiceLaws.{and_true, true_and, same_test}
use Rattle.words.specs.Lists.{each}
use Rattle.words.proofs.Each.{each_and, each_same, all-each, tab-each, zeros-each, rows-each}
use Rattle.words.specs.Lists.{all, all_zero, up_from}
use Rattle.words.specs.Numbers.{num}
use Rattle.words.specs.Sections.{tab, part}
use Rattle.words.proofs.SectionLaws.{length-tab}
use Rattle.book.specs.Book.{volumes, Slot}
use Rattle.book.specs.Layout.{n_offset, l_offset, s_offset, j_offset, b_offset, u_offset, retention_offset, entries_from, entry_size}
use Rattle.book.specs.Layout.{maps_from, cell_offset, slots_from, slot_size, rec_size, slot_offset, records_from, rec_offset, book_size, sizes_of}
use Rattle.book.specs.Layout.{entry_of}
use Rattle.book.specs.Layout.{cell_of, rec_of, book_of}
use Rattle.book.specs.Form.{retention_ok, entry_ok, pbn_ok, rec_ok, afters_ok, enrolled, slot_ok, days_ok, pairs_ok, book_ok, state_ok, second_ok, raw_ok}
use Rattle.book.specs.Form.{layout_as, form_as}
use Rattle.book.proofs.FormNumber.{number_0, number_2}
use Rattle.book.specs.FormFacts.{BookParts}
use Rattle.book.proofs.Conditions.{slot-facts}
use Rattle.book.proofs.Clauses.{book-parts, parts-book, RawParts, raw-parts, parts-raw}
use Rattle.slots.proofs.DayLaws.{volume_ok, days-pass}
use Rattle.slots.specs.Days.{days_from, no_lasts, none_gone}
use Rattle.slots.specs.Slots.{slots_left}
use Rattle.slots.specs.Records.{records_left}
use Rattle.slots.proofs.RecordLaws.{records-by}
use Rattle.slots.proofs.SlotLaws.{no-retention}
use Rattle.sections.specs.Checks.{zeros_in, head_ok, retentions_ok, entries_ok, maps_ok}
use Rattle.sections.proofs.CheckLaws.{head-facts, facts-head}
use Rattle.form.specs.Passes.{blocks_ok, slots_ok, journal_ok}

-- ---- section by section

module _ (b : List ℕ) where
  retentions-pass : all retention_ok (book_of b).retentions ≡ retentions_ok b
  unfolding book_of retentions_ok
  retentions-pass = tab-each retention_ok volumes (λ v. num b (retention_offset v))

  entries-pass : (all (state_ok (num b 0) b) (up_from 0 (num b n_offset)) && all entry_ok (book_of b).entries)
      ≡ entries_ok (num b 0) b (num b n_offset)
  unfolding book_of entries_ok
  entries-pass =
      rw (all-each (state_ok (num b 0) b) (num b n_offset), tab-each entry_ok (num b n_offset) (entry_of b))
      (sym (each_and (state_ok (num b 0) b) (λ p. entry_ok (entry_of b p)) 0 (num b n_offset)))

  maps-pass : all (all (pbn_ok (book_of b).sizes.n)) (book_of b).maps
      ≡ maps_ok b (maps_from (sizes_of b)) (volumes * num b l_offset) (num b n_offset)
  unfolding book_of maps_ok
  maps-pass =
      let row : ℕ → ℕ → Bool = λ v k. pbn_ok (num b n_offset) (cell_of b v k) in
      tab-each (all (pbn_ok (num b n_offset))) volumes (λ v. tab (num b l_offset) (cell_of b v))
      ∙ each_same (λ v. all (pbn_ok (num b n_offset)) (tab (num b l_offset) (cell_of b v)))
      (λ v. each (λ k. cell (v * num b l_offset + k)) 0 (num b l_offset)) 0 volumes
      (λ v _ _. tab-each (pbn_ok (num b n_offset)) (num b l_offset) (cell_of b v)
      ∙ each_same (row v) (λ k. cell (v * num b l_offset + k)) 0 (num b l_offset)
      (λ k _ _. ap (λ (at : ℕ). pbn_ok (num b n_offset) (num b at)) (offset v k)))
      ∙ rows-each cell (num b l_offset) volumes
    where
      cell : ℕ → Bool
      cell c = pbn_ok (num b n_offset) (num b (maps_from (sizes_of b) + c * 2))

      offset : (v k : ℕ) → cell_offset (sizes_of b) v k ≡ maps_from (sizes_of b) + (v * num b l_offset + k) * 2
      offset v k = let e : v * (num b l_offset * 2) ≡ v * num b l_offset * 2 = sym (mul_assoc v (num b l_offset) 2) in omega arith

  -- a slot in form names a volume below 8
  slot-volume : (t : Slot) → slot_ok (book_of b) t ≡ true → volume_ok t ≡ true
  slot-volume t e = go (dec_lt t.volume volumes) (slot-facts (book_of b) t e).0
    where
      go : Dec (t.volume < volumes) → enrolled (book_of b) t.volume ≡ true → volume_ok t ≡ true
      go (yes l) f = lt-ltb t.volume volumes l
      go (no l) f = let z : false ≡ true = rw (no-retention b t.volume (omega arith)) at f in cc

  used : length (book_of b).records ≡ num b u_offset
  unfolding book_of
  used = length-tab (num b u_offset) (λ q. rec_of b (rec_offset (sizes_of b) q))

  slots-pass : (all (second_ok b) (up_from 0 (num b b_offset)) && all (slot_ok (book_of b)) (book_of b).slots && days_ok (book_of b).slots
      && pairs_ok 0 (book_of b).slots (length (book_of b).records)) ≡ slots_left b 0 no_lasts none_gone 0 0
  unfolding slots_left
  slots-pass =
      rw (all-each (second_ok b) (num b b_offset), used)
      (go (each (second_ok b) 0 (num b b_offset)) (all (slot_ok (book_of b)) (book_of b).slots)
      (pairs_ok 0 (book_of b).slots (num b u_offset))
      (λ e. sym (days-pass (book_of b).slots
      (all_weaker (slot_ok (book_of b)) volume_ok (book_of b).slots slot-volume e))))
    where
      go : (a s p : Bool) {d d' : Bool} → (s ≡ true → d ≡ d') → (a && s && d && p) ≡ (a && s && d' && p)
      go false s p h = refl
      go true true p h = rw (h refl)
      go true false p h = refl

  -- the slots' test has that of their pairs, and with it the records are tested slot by slot
  pub slots-pairs : slots_ok b ≡ true → pairs_ok 0 (book_of b).slots (num b u_offset) ≡ true
  unfolding slots_ok slots_left
  slots-pairs e =
      let ts = (book_of b).slots in
      let first = each (second_ok b) 0 (num b b_offset) && all (slot_ok (book_of b)) ts && days_from no_lasts none_gone 0 ts in
      (and_true first (pairs_ok 0 ts (num b u_offset))
      (and_true (slots_left b 0 no_lasts none_gone 0 0) (zeros_in b (slot_offset (sizes_of b) (num b b_offset)) (records_from (sizes_of b))) e).0).1

  records-pass : pairs_ok 0 (book_of b).slots (length (book_of b).records) ≡ true
      → (all (rec_ok (book_of b).sizes) (book_of b).records && afters_ok (book_of b).slots (book_of b).records) ≡ records_left b 0 0
  unfolding book_of records_left
  records-pass p =
      let x = book_of b in
      sym (records-by (sizes_of b) x.slots x.records 0 (length x.records) p (omega arith))

-- ---- all together

-- all but the layout
abbrev pub sections_ok : List ℕ → Bool
sections_ok b = head_ok b && blocks_ok b && slots_ok b && journal_ok b

module _ (b : List ℕ) (len : length b ≡ book_size (sizes_of b)) where
  rest-slots : num b b_offset ≤ num b s_offset
      → all_zero (part b (slot_offset (sizes_of b) (num b b_offset)) ((num b s_offset - num b b_offset) * slot_size))
      ≡ zeros_in b (slot_offset (sizes_of b) (num b b_offset)) (records_from (sizes_of b))
  rest-slots h =
      zeros-each b ((num b s_offset - num b b_offset) * slot_size) (slot_offset (sizes_of b) (num b b_offset)) (omega arith)
      ∙ ap (zeros_in b (slot_offset (sizes_of b) (num b b_offset))) (omega arith)

  rest-records : num b u_offset ≤ num b j_offset
      → all_zero (part b (rec_offset (sizes_of b) (num b u_offset)) ((num b j_offset - num b u_offset) * rec_size))
      ≡ zeros_in b (rec_offset (sizes_of b) (num b u_offset)) (book_size (sizes_of b))
  rest-records h =
      zeros-each b ((num b j_offset - num b u_offset) * rec_size) (rec_offset (sizes_of b) (num b u_offset)) (omega arith)
      ∙ ap (zeros_in b (rec_offset (sizes_of b) (num b u_offset))) (omega arith)

  to-sections : RawParts b → BookParts (book_of b) → sections_ok b ≡ true
  unfolding blocks_ok slots_ok journal_ok book_of
  to-sections r p =
      let head : head_ok b ≡ true =
      facts-head b (record {
        slots = r.slots;
        records = r.records;
        day = p.day;
        cursor = p.cursor;
        spare = r.spare;
      }) in
      let entries =
      sym (entries-pass b) ∙ true_and (all (state_ok (num b 0) b) (up_from 0 (num b n_offset))) (all entry_ok (book_of b).entries)
      r.states p.entries in
      let slots : slots_left b 0 no_lasts none_gone 0 0 ≡ true = sym (slots-pass b) ∙ rw (r.seconds, p.slots, p.days) p.pairs in
      let records =
      true_and (all (rec_ok (book_of b).sizes) (book_of b).records) (afters_ok (book_of b).slots (book_of b).records)
      p.records p.afters in
      rw (
        head,
        sym (retentions-pass b) ∙ p.retentions,
        entries,
        sym (maps-pass b)
            ∙ p.maps,
        slots,
        sym (rest-slots r.slots) ∙ r.rest_slots,
        sym (records-pass b p.pairs) ∙ records,
      )
      (sym (rest-records r.records) ∙ r.rest_records)

  from-sections : sections_ok b ≡ true → RawParts b × BookParts (book_of b)
  unfolding blocks_ok slots_ok journal_ok book_of
  from-sections e =
      let t₃ = and_true (head_ok b && blocks_ok b && slots_ok b) (journal_ok b) e in
      let t₂ = and_true (head_ok b && blocks_ok b) (slots_ok b) t₃.0 in
      let t₁ = and_true (head_ok b) (blocks_ok b) t₂.0 in
      let h = head-facts b t₁.0 in
      let retentions = retentions_ok b in
      let entries = entries_ok (num b 0) b (num b n_offset) in
      let m = and_true (retentions && entries) (maps_ok b (maps_from (sizes_of b)) (volumes * num b l_offset) (num b n_offset)) t₁.1 in
      let n = and_true retentions entries m.0 in
      let states =
      and_true (all (state_ok (num b 0) b) (up_from 0 (num b n_offset))) (all entry_ok (book_of b).entries) (entries-pass b ∙ n.1) in
      let s = and_true (slots_left b 0 no_lasts none_gone 0 0) (zeros_in b (slot_offset (sizes_of b) (num b b_offset)) (records_from (sizes_of b))) t₂.1 in
      let j =
      and_true (records_left b 0 0)
      (zeros_in b (rec_offset (sizes_of b) (num b u_offset)) (book_size (sizes_of b))) t₃.1 in
      let second = all (second_ok b) (up_from 0 (num b b_offset)) in
      let used = all (slot_ok (book_of b)) (book_of b).slots in
      let s₃ =
      and_true (second && used && days_ok (book_of b).slots)
      (pairs_ok 0 (book_of b).slots (length (book_of b).records)) (slots-pass b ∙ s.0) in
      let s₂ = and_true (second && used) (days_ok (book_of b).slots) s₃.0 in
      let s₁ = and_true second used s₂.0 in
      let r =
      and_true (all (rec_ok (book_of b).sizes) (book_of b).records) (afters_ok (book_of b).slots (book_of b).records)
      (records-pass b s₃.1 ∙ j.0) in (
        record {
          slots = h.slots;
          records = h.records;
          spare = h.spare;
          states = states.0;
          seconds = s₁.0;
          rest_slots = rest-slots h.slots ∙ s.1;
          rest_records = rest-records h.records ∙ j.1;
        },
        record {
          day = h.day;
          cursor = h.cursor;
          retentions = retentions-pass b ∙ n.0;
          entries = states.1;
          maps = maps-pass b ∙ m.1;
          slots = s₁.1;
          days = s₂.1;
          pairs = s₃.1;
          records = r.0;
          afters = r.1;
        },
      )

  pub sections-form : (raw_ok b && book_ok (book_of b)) ≡ sections_ok b
  sections-form =
      same_test (raw_ok b && book_ok (book_of b)) (sections_ok b)
      (λ e. let t = and_true (raw_ok b) (book_ok (book_of b)) e in to-sections (raw-parts b t.0) (book-parts (book_of b) t.1))
      (λ e. let t = from-sections e in true_and (raw_ok b) (book_ok (book_of b)) (parts-raw b t.0) (parts-book (book_of b) t.1))

  pub out-of-form : (g : ℕ) → layout_as g b ≡ true → sections_ok b ≡ false → 2 ≡ form_as g b
  out-of-form g e f = sym (number_2 g b e (sections-form ∙ f))

  pub in_form : (g : ℕ) → layout_as g b ≡ true → sections_ok b ≡ true → 0 ≡ form_as g b
  in_form g e f = sym (number_0 g b e (sections-form ∙ f))

-- ---- the groups as the code tests them, on numbers that it read

module _ (b : List ℕ) where
  pub blocks_tests : (g : ℕ) {n l k : ℕ} {r e m : Bool} → num b 0 ≡ g → n ≡ num b n_offset → l ≡ num b l_offset → k ≡ n * entry_size g
      → r ≡ retentions_ok b → e ≡ entries_ok g b n → m ≡ maps_ok b (entries_from + k) (volumes * l) n → (r && e && m) ≡ blocks_ok b
  unfolding blocks_ok
  blocks_tests g eg en el ek er ee em =
      rw (er, ee, em, ek, en, el)
      (ap (λ (k : ℕ). retentions_ok b && entries_ok k b (num b n_offset)
      && maps_ok b (entries_from + num b n_offset * entry_size k) (volumes * num b l_offset) (num b n_offset)) (sym eg))

  pub slots_tests : {from used s : ℕ} {r z : Bool} → from ≡ slots_from (sizes_of b) → used ≡ num b b_offset → s ≡ num b s_offset
      → r ≡ slots_left b 0 no_lasts none_gone 0 0 → z ≡ zeros_in b (from + used * slot_size) (from + s * slot_size) → (r && z) ≡ slots_ok b
  unfolding slots_ok
  slots_tests ef eu es er ez = rw (er, ez, ef, eu, es)

  pub journal_tests : {from used s : ℕ} {r z : Bool} → length b ≡ book_size (sizes_of b) → from ≡ slots_from (sizes_of b)
      → s ≡ num b s_offset → used ≡ num b u_offset
      → r ≡ records_left b 0 0 → z ≡ zeros_in b (from + s * slot_size + used * rec_size) (length b)
      → (r && z) ≡ journal_ok b
  unfolding journal_ok
  journal_tests len ef es eu er ez = rw (er, ez, len, ef, es, eu)
