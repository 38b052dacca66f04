-- Laws of clearing: how many cells are left to clear, what a cell's clearing leaves, and one cell after the other.
use Prim.Native.Nat.{ℕ, suc, ◌+◌, ◌-◌, ◌≤◌, ◌<◌}
use mathlib.Core.Path.{◌≡◌, refl, sym, ap, subst, ◌∙◌}
use mathlib.Core.Bool.{Bool, true, false, not}
use mathlib.Core.List.{List, [], ◌∷◌}
use native.Mathlib.Numerals.{add-one}
use native.Mathlib.Omega.{arith}
use lib.Dec.{eqb}
use lib.ListN.{length, get_or, set, drop, length-append, drop_of_length-le}
use lib.Seq.{drop-cons, drop-set-lt, get_or-set_same}
use borrow.Author.Tests.{eqb-true, eqb-false, eq-eqb, ne_eqb}
use Rattle.std.specs.Prelude.{⊤, Ok, Err}
use Rattle.words.specs.Blocks.{unmapped}
use Rattle.words.proofs.Accepted.{accepted-same, unless-accepted}
use Rattle.words.proofs.Refused.{unless-refusal}
use Rattle.words.proofs.Places.{all_get_d, all_set}
use Rattle.words.specs.Lent.{Lent}
use Rattle.words.specs.Lists.{all, count_of, up_from}
use Rattle.words.specs.Outcome.{refused, accepted}
use Rattle.words.specs.Refusals.{number}
use Rattle.words.specs.declared.refusals.Refusal.{Refusal}
use Rattle.book.specs.Book.{Sizes, Book, volumes, cell_at}
use Rattle.book.specs.Form.{pbn_ok}
use Rattle.book.specs.Layout.{book_of, told, Holds, Is}
use Rattle.book.specs.Next.{with_entries, with_maps, with_cell, with_record}
use Rattle.book.proofs.Holding.{is-then}
use Rattle.claims.proofs.form.Bounds.{unmapped-ok}
use Rattle.model.specs.Backup.{lower}
use Rattle.model.specs.Retire.{mapped_cells, clear_number, cleared, clear_cell, clear_cells}
use Rattle.mover.specs.Stepping.{zero_number}
use Rattle.retirer.specs.Clearing.{clear_of, clear_all, ClearedBy}

-- ---- the mapped cells from an LBN on

unfoldable pub mapped_from : Book → ℕ → ℕ → ℕ
mapped_from x v lbn = count_of (λ p. not (eqb p unmapped)) (drop lbn (get_or x.maps v []))

module _ (x : Book) (v : ℕ) where
  pub mapped_start : mapped_from x v 0 ≡ mapped_cells x v
  unfolding mapped_from mapped_cells
  mapped_start = refl

  module _ (lbn : ℕ) where
    pub mapped_end : length (get_or x.maps v []) ≤ lbn → mapped_from x v lbn ≡ 0
    unfolding mapped_from
    mapped_end h = rw (drop_of_length-le (get_or x.maps v []) {i = lbn} h)

    module _ (h : lbn < length (get_or x.maps v [])) where
      pub mapped_none : cell_at x.maps v lbn ≡ unmapped → mapped_from x v lbn ≡ mapped_from x v (lbn + 1)
      unfolding mapped_from
      mapped_none e =
          rw (add-one lbn)
          (rw (drop-cons (get_or x.maps v []) lbn unmapped h, eq-eqb (cell_at x.maps v lbn) unmapped e))

      pub mapped_one : (cell_at x.maps v lbn ≡ unmapped → ⊥) → mapped_from x v lbn ≡ suc (mapped_from x v (lbn + 1))
      unfolding mapped_from
      mapped_one n =
          rw (add-one lbn)
          (rw (drop-cons (get_or x.maps v []) lbn unmapped h, ne_eqb (cell_at x.maps v lbn) unmapped n))

-- ---- one cell

module _ (v until lbn before : ℕ) (x : Book) where
  pub clear_none : before ≡ unmapped → clear_cell v until lbn before x ≡ accepted x
  unfolding clear_cell
  clear_none e = rw (eq-eqb before unmapped e)

  module _ (n : before ≡ unmapped → ⊥) where
    -- step 3's number 13 is that of clearing
    same_zero : zero_number x.entries before ≡ clear_number x before
    unfolding clear_number
    same_zero = rw (ne_eqb before unmapped n)

    pub clear_zero : (e : Refusal) → number e ≡ zero_number x.entries before → clear_cell v until lbn before x ≡ refused (number e)
    unfolding clear_cell
    clear_zero e h =
        rw (ne_eqb before unmapped n) (unless-refusal e (accepted (cleared v until lbn before x)) (h ∙ same_zero))

    pub clear-goes : zero_number x.entries before ≡ 0 → clear_cell v until lbn before x ≡ accepted (cleared v until lbn before x)
    unfolding clear_cell
    clear-goes e = rw (ne_eqb before unmapped n, sym same_zero ∙ e)

  -- what the writers leave
  pub cleared-is : {b₁ b₂ b₃ : List ℕ} → Is b₁ (with_entries (lower until before x.entries) x)
      → Is b₂ (with_cell v lbn unmapped (book_of b₁))
      → Is b₃ (with_record (record { lbn = lbn; before = before; after = unmapped }) (book_of b₂))
      → Is b₃ (cleared v until lbn before x)
  unfolding cleared
  cleared-is i j k =
      is-then (with_record (record { lbn = lbn; before = before; after = unmapped })) (is-then (with_cell v lbn unmapped) i j) k

-- the ways out, with the cell's block as the code has it
module _ (work : Lent (List ℕ)) (v lbn until before : ℕ) {u : ⊤} (e : before ≡ cell_at (told work.entry).maps v lbn) where
  abbrev x : Book
  x = told work.entry

  of-cell : clear_of v until lbn (told work.entry) ≡ clear_cell v until lbn before (told work.entry)
  of-cell = ap (λ (p : ℕ). clear_cell v until lbn p x) (sym e)

  pub by-none : work.exit.now ≡ work.entry.now → Holds work.entry.now → before ≡ unmapped → ClearedBy work v lbn until (Ok u)
  unfolding ClearedBy
  by-none same h n = rw same (of-cell ∙ clear_none v until lbn before x n, h)

  module _ (n : before ≡ unmapped → ⊥) where
    pub by_zero : (r : Refusal) → number r ≡ zero_number (told work.entry).entries before → ClearedBy work v lbn until (Err r)
    unfolding ClearedBy
    by_zero r z = of-cell ∙ clear_zero v until lbn before x n r z

    pub by_clearing : zero_number (told work.entry).entries before ≡ 0
        → {b₁ b₂ : List ℕ} → Is b₁ (with_entries (lower until before (told work.entry).entries) (told work.entry))
        → Is b₂ (with_cell v lbn unmapped (book_of b₁))
        → Is work.exit.now (with_record (record { lbn = lbn; before = before; after = unmapped }) (book_of b₂))
        → ClearedBy work v lbn until (Ok u)
    unfolding ClearedBy
    by_clearing g i j k =
        let c = cleared-is v until lbn before x i j k in
        (of-cell ∙ clear-goes v until lbn before x n g ∙ ap (λ (y : Book). accepted y) (sym c.book), c.holds)

-- what a cleared cell leaves as it was, and how many records and mapped cells there are then
pub record Stays (x : Book) (v lbn : ℕ) (y : Book) : Type 0 where
  pub sizes : y.sizes ≡ x.sizes
  pub slots : y.slots ≡ x.slots
  pub maps : all (all (pbn_ok x.sizes.n)) x.maps ≡ true → all (all (pbn_ok x.sizes.n)) y.maps ≡ true
  pub room : length y.records + mapped_from y v (lbn + 1) ≡ length x.records + mapped_from x v lbn

module _ (v until lbn : ℕ) (x : Book) (hv : v < length x.maps) (hl : lbn < length (get_or x.maps v [])) where
  abbrev row : List ℕ
  row = get_or x.maps v []

  cleared-maps : (before : ℕ) → all (all (pbn_ok x.sizes.n)) x.maps ≡ true
      → all (all (pbn_ok x.sizes.n)) (cleared v until lbn before x).maps ≡ true
  unfolding cleared with_record with_maps with_entries
  cleared-maps before e =
      let f = pbn_ok x.sizes.n in
      all_set (all f) x.maps v (set row lbn unmapped) e
      (all_set f row lbn unmapped (all_get_d (all f) x.maps [] v e refl) (unmapped-ok x.sizes.n))

  cleared-left : (before : ℕ) → mapped_from (cleared v until lbn before x) v (lbn + 1) ≡ mapped_from x v (lbn + 1)
  unfolding cleared with_record with_maps with_entries mapped_from
  cleared-left before =
      rw (
        get_or-set_same x.maps v (set row lbn unmapped) [] hv,
        drop-set-lt (lbn + 1) row lbn unmapped (omega arith),
      )

  cleared-records : (before : ℕ) → length (cleared v until lbn before x).records ≡ length x.records + 1
  unfolding cleared with_record with_maps with_entries
  cleared-records before = length-append x.records _

  stays-none : cell_at x.maps v lbn ≡ unmapped → Stays x v lbn x
  stays-none e = record { sizes = refl; slots = refl; maps = λ h. h; room = omega (arith, mapped_none x v lbn hl e) }

  stays-cleared : (cell_at x.maps v lbn ≡ unmapped → ⊥) → Stays x v lbn (cleared v until lbn (cell_at x.maps v lbn) x)
  unfolding cleared with_record with_maps with_entries
  stays-cleared n =
      let p = cell_at x.maps v lbn in
      record {
        sizes = refl;
        slots = refl;
        maps = λ h. cleared-maps p h;
        room = omega (arith, cleared-records p, cleared-left p, mapped_one x v lbn hl n);
      }

  pub clear_stays : (y : Book) → clear_of v until lbn x ≡ accepted y → Stays x v lbn y
  unfolding clear_cell
  clear_stays y e = go (eqb (cell_at x.maps v lbn) unmapped) refl
    where
      go : (t : Bool) → eqb (cell_at x.maps v lbn) unmapped ≡ t → Stays x v lbn y
      go true z =
          let u = eqb-true (cell_at x.maps v lbn) unmapped z in
          subst (λ (y : Book). Stays x v lbn y) (accepted-same x y (sym (clear_none v until lbn (cell_at x.maps v lbn) x u) ∙ e)) (stays-none u)
      go false z =
          let n = eqb-false (cell_at x.maps v lbn) unmapped z in
          let d = cleared v until lbn (cell_at x.maps v lbn) x in
          let f = unless-accepted (clear_number x (cell_at x.maps v lbn)) (accepted d) y (rw z at e) in
          subst (λ (y : Book). Stays x v lbn y) (accepted-same d y f.1) (stays-cleared n)

-- ---- one cell after the other

from_next : (i n : ℕ) → i < n → up_from i (n - i) ≡ i ∷ up_from (i + 1) (n - (i + 1))
from_next i n h = let e : n - i ≡ suc (n - (i + 1)) = omega arith in rw (e, add-one i)

-- the cells below lbn are cleared
pub record Clearing (b₀ : List ℕ) (v until : ℕ) (b : List ℕ) (lbn : ℕ) : Type 0 where
  pub len : length b ≡ length b₀
  pub holds : Holds b
  pub sizes : (book_of b).sizes ≡ (book_of b₀).sizes
  pub slots : (book_of b).slots ≡ (book_of b₀).slots
  pub maps : all (all (pbn_ok (book_of b).sizes.n)) (book_of b).maps ≡ true
  pub room : length (book_of b).records + mapped_from (book_of b) v lbn ≤ (book_of b).sizes.j
  pub run : clear_all v until (book_of b₀) ≡ clear_cells v until (up_from lbn ((book_of b₀).sizes.l - lbn)) (book_of b)

module _ (b₀ : List ℕ) (v until : ℕ) where
  pub clearing_start : Holds b₀ → all (all (pbn_ok (book_of b₀).sizes.n)) (book_of b₀).maps ≡ true
      → length (book_of b₀).records + mapped_cells (book_of b₀) v ≤ (book_of b₀).sizes.j → Clearing b₀ v until b₀ 0
  clearing_start h ok room =
      let l = (book_of b₀).sizes.l in
      let e : l ≡ l - 0 = omega arith in
      record {
        len = refl;
        holds = h;
        sizes = refl;
        slots = refl;
        maps = ok;
        room = rw (mapped_start (book_of b₀) v) room;
        run = ap (λ (n : ℕ). clear_cells v until (up_from 0 n) (book_of b₀)) e;
      }

  module _ (b : List ℕ) (lbn : ℕ) (s : Clearing b₀ v until b lbn) where
    module _ (hl : lbn < (book_of b₀).sizes.l) (hv : v < volumes) where
      within : lbn < length (get_or (book_of b).maps v [])
      within = omega (arith, s.holds.sized.cells v hv, ap (λ (z : Sizes). z.l) s.sizes)

      next : clear_cells v until (up_from lbn ((book_of b₀).sizes.l - lbn)) (book_of b)
          ≡ clear_cells v until (lbn ∷ up_from (lbn + 1) ((book_of b₀).sizes.l - (lbn + 1))) (book_of b)
      next = ap (λ (ls : List ℕ). clear_cells v until ls (book_of b)) (from_next lbn (book_of b₀).sizes.l hl)

      -- a mapped cell finds room for its record
      pub clearing_room : (cell_at (book_of b).maps v lbn ≡ unmapped → ⊥) → length (book_of b).records < (book_of b).sizes.j
      clearing_room n = omega (arith, s.room, mapped_one (book_of b) v lbn within n)

      pub clearing_more : (b' : List ℕ) → clear_of v until lbn (book_of b) ≡ accepted (book_of b') → Holds b' → length b' ≡ length b
          → Clearing b₀ v until b' (lbn + 1)
      clearing_more b' e h l =
          let k = clear_stays v until lbn (book_of b) (omega (arith, s.holds.sized.maps, hv)) within (book_of b') e in
          let j = ap (λ (z : Sizes). z.j) k.sizes in
          record {
            len = l ∙ s.len;
            holds = h;
            sizes = k.sizes ∙ s.sizes;
            slots = k.slots ∙ s.slots;
            maps = rw k.sizes (k.maps s.maps);
            room = omega (arith, s.room, k.room);
            run = s.run ∙ next ∙ rw e;
          }

      pub clearing_stop : (k : ℕ) → clear_of v until lbn (book_of b) ≡ refused k → clear_all v until (book_of b₀) ≡ refused k
      clearing_stop k e = s.run ∙ next ∙ rw e

    pub clearing_end : (book_of b₀).sizes.l ≤ lbn → clear_all v until (book_of b₀) ≡ accepted (book_of b)
    clearing_end h = let e : (book_of b₀).sizes.l - lbn ≡ 0 = omega arith in s.run ∙ rw e
