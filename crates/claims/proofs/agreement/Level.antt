-- Where both sides stand alike between two changes of a backup: the same blocks, the copy is our map, counts are cells. Placing keeps it,
-- and so do steps 3 and 4, which nothing refuses: a count is at most the number of cells.
use Prim.Native.Nat.{ℕ, ◌+◌, ◌*◌, ◌≤◌, ◌<◌}
use mathlib.Core.Path.{◌≡◌, refl, sym, ap, subst, ◌∙◌}
use mathlib.Core.Logic.{◌≢◌}
use mathlib.Core.Bool.{Bool, true, false, not, ◌&&◌}
use mathlib.Core.List.{List, []}
use native.Mathlib.Omega.{arith}
use lib.Dec.{eqb}
use lib.ListN.{length, get_or, set, length-set}
use lib.Seq.{get_or-set_same, get_or-set_other, set-set}
use borrow.Author.Tests.{eqb-true, eqb-false, eq-eqb, ne_eqb}
use Rattle.words.specs.Blocks.{unmapped}
use Rattle.words.specs.Choice.{when◌then◌else◌}
use Rattle.words.specs.Lists.{bit}
use Rattle.words.proofs.Appends.{length-rows}
use Rattle.words.proofs.Counting.{count_most, count_set, count-joined}
use Rattle.words.specs.Lists.{count_of, joined}
use Rattle.book.specs.Book.{volumes, Book, entry_at, cell_at, Sized}
use Rattle.book.specs.Next.{with_entries, with_maps, with_record, cells_with}
use Rattle.book.proofs.SizesIn.{sizes-facts}
use Rattle.model.specs.Backup.{Work, lower, name_block, move_number, moved}
use Rattle.model.specs.PlainBackup
use Rattle.model.specs.PlainBackup.{PlainWork}
use Rattle.claims.proofs.agreement.Agree.{Fit}
use Rattle.claims.proofs.agreement.Placing.{Alike, PlacedAt}
use Rattle.claims.proofs.agreement.Moving.{length_moved, moved-blocks, lower-count, moved-count}

-- how many cells name block q, when volume v's map is m and the others are as in ms
abbrev pub names_in : List (List ℕ) → ℕ → List ℕ → ℕ → ℕ
names_in ms v m q = count_of (eqb q) (joined (set ms v m))

-- a cell changed
pub names-set : (ms : List (List ℕ)) (v : ℕ) (m : List ℕ) (i b q : ℕ) → v < length ms → i < length m
    → names_in ms v (set m i b) q + bit (eqb q (get_or m i unmapped)) ≡ names_in ms v m q + bit (eqb q b)
names-set ms v m i b q h k =
    omega (arith, count-joined (eqb q) ms v (set m i b) h, count-joined (eqb q) ms v m h, count_set (eqb q) m i b unmapped k)

-- "Eight maps of 1,024 cells can't pass 8,192" (document 02, K3), whichever map of L cells volume v has
pub named-bound : (x : Book) → Sized x → (v : ℕ) (m : List ℕ) (q : ℕ) → v < volumes → length m ≡ x.sizes.l
    → names_in x.maps v m q ≤ volumes * x.sizes.l
named-bound x s v m q h e =
    let rows : length (set x.maps v m) ≡ volumes = length-set x.maps v m ∙ s.maps in
    let cells : length (joined (set x.maps v m)) ≡ volumes * x.sizes.l =
    length-rows x.sizes.l (set x.maps v m) (λ r k. row r (eqb r v) refl (omega arith)) ∙ ap (λ n. n * x.sizes.l) rows in
    omega (arith, count_most (eqb q) (joined (set x.maps v m)))
  where
    row : (r : ℕ) (t : Bool) → eqb r v ≡ t → r < volumes → length (get_or (set x.maps v m) r []) ≡ x.sizes.l
    row r true f k = rw (eqb-true r v f, get_or-set_same x.maps v m [] (rw s.maps h)) e
    row r false f k = rw (get_or-set_other x.maps v r m [] (eqb-false r v f)) (s.cells r k)

-- x is the book at the backup's start
pub record Level (x : Book) (v : ℕ) (w : Work) (u : PlainWork) : Type 0 where
  pub alike : Alike w u
  pub sizes : w.book.sizes ≡ x.sizes
  pub retentions : w.book.retentions ≡ x.retentions
  pub slots : w.book.slots ≡ x.slots
  pub maps : w.book.maps ≡ set x.maps v u.copy
  pub width : length u.copy ≡ x.sizes.l
  pub counts : (q : ℕ) → q < x.sizes.n → (entry_at w.book.entries q).count ≡ names_in x.maps v u.copy q
  pub cells : (i : ℕ) → get_or u.copy i unmapped ≢ unmapped → get_or u.copy i unmapped < x.sizes.n

pub placed-level : (x : Book) (v : ℕ) (w : Work) (u : PlainWork) (p : ℕ) (w' : Work) (u' : PlainWork)
    → Level x v w u → PlacedAt w u p w' u' → Level x v w' u'
placed-level x v w u p w' u' a r = record {
  alike = r.alike;
  sizes = r.aside.sizes ∙ a.sizes;
  retentions = r.aside.retentions ∙ a.retentions;
  slots = r.aside.slots ∙ a.slots;
  maps = r.aside.maps ∙ a.maps ∙ ap (λ (m : List ℕ). set x.maps v m) (sym r.copy);
  width = ap length r.copy ∙ a.width;
  counts = λ q k. r.counts q ∙ a.counts q k ∙ ap (λ (m : List ℕ). names_in x.maps v m q) (sym r.copy);
  cells = subst (λ (m : List ℕ). (i : ℕ) → get_or m i unmapped ≢ unmapped → get_or m i unmapped < x.sizes.n) (sym r.copy) a.cells;
}

-- the cell that a change replaces
module _ (x : Book) (v lbn : ℕ) (w : Work) (u : PlainWork) (a : Level x v w u) where
  pub cell-before : v < length x.maps → cell_at w.book.maps v lbn ≡ get_or u.copy lbn unmapped
  cell-before inside = ap (λ (m : List (List ℕ)). cell_at m v lbn) a.maps ∙ rw (get_or-set_same x.maps v u.copy [] inside)

  pub before-inside : get_or u.copy lbn unmapped ≢ unmapped → get_or u.copy lbn unmapped < length w.book.entries
  before-inside z = omega (arith, a.cells lbn z, a.alike.entries, ap (λ s. s.n) a.sizes)

module _ (x : Book) (v : ℕ) (inside : v < length x.maps) (small : x.sizes.n < unmapped) where
  -- steps 3 and 4 of a change that was placed at p
  module _ (until lbn p : ℕ) (w : Work) (u : PlainWork) (a : Level x v w u) (i : lbn < x.sizes.l) (h : p < x.sizes.n) where
    abbrev before : ℕ
    before = get_or u.copy lbn unmapped

    -- the cells without this one
    out : (q : ℕ) → q < x.sizes.n
        → names_in x.maps v (set u.copy lbn unmapped) q + bit (eqb q before) ≡ names_in x.maps v u.copy q
    out q k =
        names-set x.maps v u.copy lbn unmapped q inside (omega (arith, a.width))
        ∙ rw (ne_eqb q unmapped (λ (z : q ≡ unmapped). omega arith)) (omega arith)

    lowered_is : (q : ℕ) → q < x.sizes.n
        → (entry_at (lower until before w.book.entries) q).count ≡ names_in x.maps v (set u.copy lbn unmapped) q
    lowered_is q k =
        lower-count until before p w.book.entries q (omega arith) (before-inside x v lbn w u a)
        ∙ omega (arith, a.counts q k, out q k)

    some_left : (t : Bool) → eqb before unmapped ≡ t → (not t && eqb (entry_at w.book.entries before).count 0) ≡ false
    some_left true e = refl
    some_left false e =
        let k : before < x.sizes.n = a.cells lbn (eqb-false before unmapped e) in
        ne_eqb (entry_at w.book.entries before).count 0 (λ (e : (entry_at w.book.entries before).count ≡ 0).
        omega (arith, a.counts before k, out before k, ap bit (eq-eqb before before refl)))

    -- the found block, this cell's before taken out
    few-cells : Fit x → (entry_at (lower until before w.book.entries) p).count ≤ 8192
    few-cells fit =
        omega (
          arith,
          lowered_is p h,
          named-bound x fit.sized v (set u.copy lbn unmapped) p (omega (arith, fit.sized.maps))
              (length-set u.copy lbn unmapped ∙ a.width),
          (sizes-facts x.sizes fit.sizes).l,
        )

    -- never 13, and never 14
    pub never-refused : Fit x → move_number until before p w.book.entries ≡ 0
    unfolding move_number
    never-refused fit =
        rw (
          some_left (eqb before unmapped) refl,
          ne_eqb (entry_at (lower until before w.book.entries) p).count 65535 (λ e. omega (arith, few-cells fit)),
        )

    cell_in : (j : ℕ) (t : Bool) → eqb j lbn ≡ t → get_or (set u.copy lbn p) j unmapped ≢ unmapped
        → get_or (set u.copy lbn p) j unmapped < x.sizes.n
    cell_in j true e z = rw (eqb-true j lbn e, get_or-set_same u.copy lbn p unmapped (omega (arith, a.width))) h
    cell_in j false e z =
        let s : get_or (set u.copy lbn p) j unmapped ≡ get_or u.copy j unmapped =
        get_or-set_other u.copy lbn j p unmapped (eqb-false j lbn e) in
        rw s (a.cells j (λ (y : get_or u.copy j unmapped ≡ unmapped). z (s ∙ y)))

    abbrev our_next : Work
    our_next = moved v until lbn before (record { pbn = p; work = w })

    abbrev plain_next : PlainWork
    plain_next = PlainBackup.moved lbn (record { pbn = p; work = u })

    moved-alike : Alike our_next plain_next
    unfolding moved PlainBackup.moved name_block with_record with_maps with_entries
    moved-alike = record {
      blocks = a.alike.blocks ∙ sym (moved-blocks until before p w.book.entries w.pool);
      cursor = a.alike.cursor;
      taken = a.alike.taken;
      touched = ap (λ (k : ℕ). k + (when eqb before unmapped then 1 else 2)) a.alike.touched;
      entries = length_moved until before p w.book.entries ∙ a.alike.entries;
      pool = a.alike.pool;
    }

    pub moved-level : Level x v our_next plain_next
    unfolding moved PlainBackup.moved name_block with_record with_maps with_entries
    moved-level = record {
      alike = moved-alike;
      sizes = a.sizes;
      retentions = a.retentions;
      slots = a.slots;
      maps =
          ap (λ (m : List (List ℕ)). cells_with m v lbn p) a.maps
          ∙ rw (get_or-set_same x.maps v u.copy [] inside) (set-set x.maps v u.copy (set u.copy lbn p));
      width = length-set u.copy lbn p ∙ a.width;
      counts = λ q k.
          moved-count until before p w.book.entries q (omega arith) (before-inside x v lbn w u a)
          (omega (arith, a.alike.entries, ap (λ s. s.n) a.sizes))
          ∙ omega (arith, lowered_is q k, out q k, names-set x.maps v u.copy lbn p q inside (omega (arith, a.width)));
      cells = λ j k. cell_in j (eqb j lbn) refl k;
    }
