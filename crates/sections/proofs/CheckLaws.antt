-- Laws of specs/Checks.antt.
-- The conditions of form section by section, as one pass over the bytes tests them.
use Prim.Native.Nat.{ℕ, ◌+◌, ◌≤◌, ◌<◌}
use mathlib.Core.Path.{◌≡◌, refl, sym, ap, ◌∙◌}
use mathlib.Core.Bool.{Bool, true, false, ◌&&◌, ◌||◌}
use mathlib.Core.List.{List}
use lib.Dec.{leb, ltb, eqb}
use lib.ListN.{length, get_or}
use borrow.Author.Tests.{leb-true, ltb-true, eqb-true, le-leb, lt-leb, lt-ltb, eq-eqb, ne_eqb}
use native.Mathlib.Omega.{arith}
use Rattle.words.specs.Blocks.{print_size}
use Rattle.words.proofs.ChoiceLaws.{and_true}
use Rattle.words.proofs.Each.{zeros-each}
use Rattle.words.specs.Lists.{each, all_zero}
use Rattle.words.specs.Numbers.{num}
use Rattle.words.specs.Sections.{tab}
use Rattle.words.proofs.SectionLaws.{part-tab}
use Rattle.book.specs.Layout.{header_size, count_size, book_size, entry_offset, n_offset, l_offset, s_offset, j_offset, b_offset}
use Rattle.book.specs.Layout.{u_offset, day_offset, cursor_offset, zero_offset, count_in, entry_in}
use Rattle.book.specs.Form.{between, sizes_as, layout_as, sizes_ok, state_ok, entry_ok}
use Rattle.book.specs.Next.{new_sizes}
use Rattle.book.proofs.Widths.{offset-same, entry-same, narrow-entry, wide-entry}
use Rattle.sections.specs.Checks.{zeros_in, head_ok, rest_ok, entries_ok, HeadIn}

pub head-facts : (b : List ℕ) → head_ok b ≡ true → HeadIn b
unfolding head_ok
head-facts b e =
    let c₁ = leb (num b b_offset) (num b s_offset) in
    let c₂ = c₁ && leb (num b u_offset) (num b j_offset) in
    let c₃ = c₂ && leb (num b day_offset) 60000 in
    let t₅ = and_true (c₃ && ltb (num b cursor_offset) (num b n_offset)) (eqb (num b zero_offset) 0) e in
    let t₄ = and_true c₃ (ltb (num b cursor_offset) (num b n_offset)) t₅.0 in
    let t₃ = and_true c₂ (leb (num b day_offset) 60000) t₄.0 in
    let t₂ = and_true c₁ (leb (num b u_offset) (num b j_offset)) t₃.0 in
    record {
      slots = leb-true (num b b_offset) (num b s_offset) t₂.0;
      records = leb-true (num b u_offset) (num b j_offset) t₂.1;
      day = leb-true (num b day_offset) 60000 t₃.1;
      cursor = ltb-true (num b cursor_offset) (num b n_offset) t₄.1;
      spare = eqb-true (num b zero_offset) 0 t₅.1;
    }

pub facts-head : (b : List ℕ) → HeadIn b → head_ok b ≡ true
unfolding head_ok
facts-head b h =
    rw (
      le-leb (num b b_offset) (num b s_offset) h.slots,
      le-leb (num b u_offset) (num b j_offset) h.records,
      le-leb
          (num b day_offset) 60000 h.day,
      lt-ltb (num b cursor_offset) (num b n_offset) h.cursor,
    )
    (eq-eqb (num b zero_offset) 0 h.spare)

-- ---- the tests as the code makes them, on numbers that it read

pub layout_tests : (g : ℕ) (b : List ℕ) {k n l s j w : ℕ} {t : Bool} → header_size ≤ length b → n ≡ num b n_offset
    → l ≡ num b l_offset → s ≡ num b s_offset
    → j ≡ num b j_offset → k ≡ num b 0 → t ≡ sizes_ok (new_sizes n l s j)
    → w ≡ book_size (record { layout = g; n = n; l = l; s = s; j = j })
    → (eqb k g && t && eqb (length b) w) ≡ layout_as g b
unfolding layout_as sizes_as
layout_tests g b h en el es ej ek et ew =
    rw (le-leb header_size (length b) h, et, ew, ek, en, el, es, ej) (go (eqb (num b 0) g) refl)
  where
    size : ℕ → ℕ
    size g = book_size (record { layout = g; n = num b n_offset; l = num b l_offset; s = num b s_offset; j = num b j_offset })

    n : Bool
    n = between 1 4096 (num b n_offset)

    l : Bool
    l = between 1 1024 (num b l_offset)

    s : Bool
    s = between 1 1024 (num b s_offset)

    j : Bool
    j = between 1 16384 (num b j_offset)

    go : (t : Bool) → eqb (num b 0) g ≡ t
        → (t && (n && l && s && j) && eqb (length b) (size g)) ≡ ((t && n && l && s && j) && eqb (length b) (size (num b 0)))
    go false e = refl
    go true e = ap (λ (k : ℕ). (n && l && s && j) && eqb (length b) (size k)) (sym (eqb-true (num b 0) g e))

-- what follows an entry's count, on each way that the code goes
module _ (b : List ℕ) (count at : ℕ) (fits : at + 19 ≤ length b) where
  abbrev state : ℕ
  state = get_or b at 0

  abbrev expiry : ℕ
  expiry = num b (at + 1)

  abbrev clear : Bool
  clear = zeros_in b (at + 3) (at + 19)

  rest_tests : rest_ok b count at ≡ (leb state 1 && (leb expiry 65000 && (eqb state 1 || (eqb count 0 && clear))))
  unfolding rest_ok entry_ok
  rest_tests =
      let t = part-tab print_size b (at + 3) (λ i. get_or b (at + 3 + i) 0) (omega arith) (λ i hi. refl) in
      let e : at + 3 + print_size ≡ at + 19 = omega arith in
      let z : all_zero (tab print_size (λ i. get_or b (at + 3 + i) 0)) ≡ clear =
      ap all_zero t ∙ zeros-each b print_size (at + 3) (omega arith) ∙ ap (zeros_in b (at + 3)) e
      in
      ap (λ (r : Bool). leb state 1 && (leb expiry 65000 && (eqb state 1 || (eqb count 0 && r)))) z

  pub bad_state : 1 < state → false ≡ rest_ok b count at
  bad_state h = sym (rest_tests ∙ rw (lt-leb state 1 h))

  pub late-expiry : state ≤ 1 → 65000 < expiry → false ≡ rest_ok b count at
  late-expiry h x = sym (rest_tests ∙ rw (le-leb state 1 h, lt-leb expiry 65000 x))

  pub held-entry : state ≡ 1 → expiry ≤ 65000 → true ≡ rest_ok b count at
  held-entry h x = sym (rest_tests ∙ rw (le-leb state 1 (omega arith), le-leb expiry 65000 x, eq-eqb state 1 h))

  module _ (h : state ≡ 0) (x : expiry ≤ 65000) where
    free_tests : rest_ok b count at ≡ (eqb count 0 && clear)
    free_tests = rest_tests ∙ rw (le-leb state 1 (omega arith), le-leb expiry 65000 x, ne_eqb state 1 (λ e. omega arith))

    pub counted-free : 0 < count → false ≡ rest_ok b count at
    counted-free k = sym (free_tests ∙ rw (ne_eqb count 0 (λ e. omega arith)))

    pub free-entry : count ≡ 0 → clear ≡ rest_ok b count at
    free-entry k = sym (free_tests ∙ rw (eq-eqb count 0 k))

-- entry p of layout g, by its count and what follows it
pub entry_tests : (g : ℕ) (b : List ℕ) (p at : ℕ) → at ≡ entry_offset g p → {r : Bool} {count rest : ℕ} → r ≡ rest_ok b count rest
    → count ≡ count_in g b at → rest ≡ at + count_size g → r ≡ (state_ok g b p && entry_ok (entry_in g b (entry_offset g p)))
unfolding rest_ok state_ok
entry_tests g b p at e er ec eo =
    let c = count_size g in
    let one : at + c + 1 ≡ at + (c + 1) = omega arith in
    let three : at + c + 3 ≡ at + (c + 3) = omega arith in
    er
    ∙ (λ i. rest_ok b (ec i) (eo i))
    ∙ (λ i. leb (get_or b (at + c) 0) 1
    && entry_ok
    (record {
      count = count_in g b at;
      held = eqb (get_or b (at + c) 0) 1;
      expiry = num b (one i);
      print = tab print_size (λ k. get_or b (three i + k) 0);
    }))
    ∙ ap (λ (o : ℕ). leb (get_or b (o + c) 0) 1 && entry_ok (entry_in g b o)) e

-- an entry's size in layout 1, and in any other
pub ruleset entry_sizes = (narrow-entry, wide-entry)

-- entries of layouts with counts of the same width
pub entries-same : (g h : ℕ) → count_size g ≡ count_size h → (b : List ℕ) (n : ℕ) → entries_ok g b n ≡ entries_ok h b n
unfolding entries_ok state_ok
entries-same g h e b n =
    let entry : (p : ℕ) → entry_in g b (entry_offset g p) ≡ entry_in h b (entry_offset h p) =
    λ p. ap (λ (at : ℕ). entry_in g b at) (offset-same g h e p) ∙ entry-same g h e b (entry_offset h p)
    in
    λ i. each (λ p. leb (get_or b (offset-same g h e p i + e i) 0) 1 && entry_ok (entry p i)) 0 n
