-- Laws of steps 1 and 2: what the lookups found and the writers left is what the model says.
use Prim.Native.Nat.{ℕ, suc, ◌+◌, ◌*◌, ◌≤◌, ◌<◌, ◌%◌}
use mathlib.Core.Path.{◌≡◌, refl, sym, ap, ◌∙◌}
use mathlib.Core.Bool.{Bool, true, false}
use mathlib.Core.List.{List}
use mathlib.Core.Option.{none, some}
use native.Mathlib.Nat.{mod-lt}
use native.Mathlib.Numerals.{add-one}
use native.Mathlib.Omega.{arith}
use lib.Dec.{eqb}
use lib.ListN.{length, get_or, set, length-set}
use lib.Seq.{get_or-set_same, get_or-set_other}
use borrow.Author.Tests.{eqb-true, eqb-false}
use Rattle.words.proofs.ChoiceLaws.{not_both}
use Rattle.words.specs.Lists.{same}
use Rattle.words.specs.Outcome.{refused, accepted}
use Rattle.words.specs.declared.PBN.{PBN}
use Rattle.words.proofs.Parts.{length_part}
use Rattle.words.specs.Sections.{part}
use Rattle.words.specs.Blocks.{print_size}
use Rattle.runs.specs.Changes.{Change, change_count, change_at, prints_from}
use Rattle.runs.proofs.Laws.{print-part}
use Rattle.finder.specs.Answers.{found_of}
use Rattle.std.specs.Prelude.{Option}
use Rattle.list.proofs.ReaderLaws.{length-block}
use Rattle.list.specs.declared.ChangeList.{ChangeList}
use Rattle.book.specs.Book.{Entry, Book, free_entry, entry_at, Sized}
use Rattle.book.specs.Layout.{book_of, Holds, Is}
use Rattle.book.specs.Next.{with_cursor, with_entries, with_entry, held_as}
use Rattle.model.specs.Pool.{block_at, with_block}
use Rattle.model.specs.Backup.{Work, find_held, find_free, take_block, place_free, place_held, place}
use Rattle.placer.proofs.Finding.{found-held, found-free}
use Rattle.book.proofs.Holding.{is-then, is_same}
use Rattle.placer.proofs.PoolLaws.{Known, block-now, taken-now}
use Rattle.placer.specs.Placing.{taken_book}
use Rattle.placer.specs.Working.{held_block, block_now, pool_now, work_of, Job, Standing}
use Rattle.placer.specs.declared.placing.Tally.{Tally}

-- ---- the model's steps, by what is found

module _ (c : Change) (w : Work) where
  place_twelve : find_held w.book.entries c.print ≡ none → find_free w.book.entries w.book.cursor ≡ none
      → place c w ≡ refused 12
  unfolding place place_held place_free
  place_twelve e f = ap (place_held c w) e ∙ ap (place_free c w) f

  place-taken : (p : ℕ) → find_held w.book.entries c.print ≡ none → find_free w.book.entries w.book.cursor ≡ some p
      → place c w ≡ accepted (record { pbn = p; work = take_block c p w })
  unfolding place place_held place_free
  place-taken p e f = ap (place_held c w) e ∙ ap (place_free c w) f

  place_eleven : (p : ℕ) → find_held w.book.entries c.print ≡ some p
      → same (block_at w.pool p) c.block ≡ false → place c w ≡ refused 11
  unfolding place place_held
  place_eleven p e f = ap (place_held c w) e ∙ rw f

  place_found : (p : ℕ) → find_held w.book.entries c.print ≡ some p → same (block_at w.pool p) c.block ≡ true
      → place c w ≡ accepted (record { pbn = p; work = w })
  unfolding place place_held
  place_found p e f = ap (place_held c w) e ∙ rw f

-- ---- where a backup stands

-- the block of change i is p, and the working copy is b' with it: what `PlacedBy` says, between plain values
abbrev pub PlacedAt : Book → List ℕ → List ℕ → ℕ → List ℕ → List ℕ → Tally → PBN → Tally → List ℕ → List ℕ → Type 0
PlacedAt x pool list i b taker t p t' b' taker' =
    (place (change_at list i) (work_of x pool list (book_of b) taker t)
    ≡ accepted (record { pbn = p.0; work = work_of x pool list (book_of b') taker' t' }))
    × ((book_of b').maps ≡ (book_of b).maps)
    × (p.0 < x.sizes.n)
    × Holds b'
    × Standing x (book_of b') taker' t' (i + 1) i

-- a change of the list, as the laws count them
pub below : (list : ChangeList) {i : ℕ} → i < list.shape.changes → i < change_count list.bytes.now
below list h = omega (arith, h, list.whole.changes)

pub known : (x y : Book) (pool : List ℕ) (list : ChangeList) (taker : List ℕ) (t : Tally) (m i : ℕ) → Sized x
    → Job x pool list → Standing x y taker t m i → m ≤ change_count list.bytes.now
    → Known x.entries y.entries taker list.bytes.now pool (change_count list.bytes.now)
known x y pool list taker t m i sx j s h = record {
  size = rw sx.entries j.size;
  whole = length-block list.bytes.now list.shape list.whole;
  marks = λ p f e. let z = s.marks p f e in omega arith;
}

module _ (x : Book) (pool : List ℕ) (list : ChangeList) (t : Tally) (i : ℕ) (b taker : List ℕ)
    (sx : Sized x) (hb : Holds b) (j : Job x pool list) (h : i < change_count list.bytes.now) (s : Standing x (book_of b) taker t i i) where
  abbrev y : Book
  y = book_of b

  abbrev c : Change
  c = change_at list.bytes.now i

  abbrev w : Work
  w = work_of x pool list.bytes.now (book_of b) taker t

  k : Known x.entries (book_of b).entries taker list.bytes.now pool (change_count list.bytes.now)
  k = known x y pool list taker t i i sx j s (omega arith)

  bound : (p : ℕ) → p < length (book_of b).entries → (p < x.sizes.n) × (p < length x.entries)
  bound p l =
      let e = hb.sized.entries in
      let n : y.sizes.n ≡ x.sizes.n = rw s.sizes in
      let f = sx.entries in
      (omega arith, omega arith)

  -- the bytes of a block that is found
  pub found-bytes : (p : ℕ) → find_held (book_of b).entries (change_at list.bytes.now i).print ≡ some p
      → block_at (pool_now x.entries (book_of b).entries taker list.bytes.now pool) p ≡ held_block x.entries taker list.bytes.now pool p
  unfolding block_now
  found-bytes p e =
      let f = found-held y.entries c.print p e in
      block-now x.entries y.entries taker list.bytes.now pool (change_count list.bytes.now) k p (bound p f.0).1 ∙ rw f.1

  pub twelve_by : find_held (book_of b).entries (change_at list.bytes.now i).print ≡ none → find_free (book_of b).entries (book_of b).cursor ≡ none
      → place (change_at list.bytes.now i) (work_of x pool list.bytes.now (book_of b) taker t) ≡ refused 12
  twelve_by e f = place_twelve c w e f

  pub eleven_by : (p : ℕ) → find_held (book_of b).entries (change_at list.bytes.now i).print ≡ some p
      → same (held_block x.entries taker list.bytes.now pool p) (change_at list.bytes.now i).block ≡ false
      → place (change_at list.bytes.now i) (work_of x pool list.bytes.now (book_of b) taker t) ≡ refused 11
  eleven_by p e f = place_eleven c w p e (rw (found-bytes p e) f)

  pub found-by : (q : PBN) → find_held (book_of b).entries (change_at list.bytes.now i).print ≡ some q.0
      → same (held_block x.entries taker list.bytes.now pool q.0) (change_at list.bytes.now i).block ≡ true → PlacedAt x pool list.bytes.now i b taker t q t b taker
  found-by q e f = (
    place_found c w q.0 e (rw (found-bytes q.0 e) f),
    refl,
    (bound q.0 (found-held y.entries c.print q.0 e).0).0,
    hb,
    record {
      sizes = s.sizes;
      slots = s.slots;
      cursor = s.cursor;
      maps = s.maps;
      records = s.records;
      kept = s.kept;
      marks = λ p f e. let z = s.marks p f e in omega arith;
      table = s.table;
      taken = let z = s.taken in omega arith;
      touched = s.touched;
    },
  )

  -- ---- a block taken

  module _ (p : ℕ) (l : p < length (book_of b).entries) (free : (entry_at (book_of b).entries p).held ≡ false) where
    abbrev y' : Book
    y' = taken_book (change_at list.bytes.now i).print p (book_of b)

    taken_here : (entry_at (taken_book (change_at list.bytes.now i).print p (book_of b)).entries p).held ≡ true
    unfolding with_cursor with_entries held_as
    taken_here = ap (λ (e : Entry). e.held) (get_or-set_same y.entries p (held_as c.print (entry_at y.entries p)) free_entry l)

    taken-other : (q : ℕ) → (q ≡ p → ⊥)
        → (entry_at (taken_book (change_at list.bytes.now i).print p (book_of b)).entries q).held
        ≡ (entry_at (book_of b).entries q).held
    unfolding with_cursor with_entries
    taken-other q d = ap (λ (e : Entry). e.held) (get_or-set_other y.entries p q (held_as c.print (entry_at y.entries p)) free_entry d)

    free-old : (entry_at x.entries p).held ≡ false
    free-old = go (entry_at x.entries p).held refl
      where
        go : (u : Bool) → (entry_at x.entries p).held ≡ u → u ≡ false
        go true e = absurd (not_both (entry_at y.entries p).held (s.kept p e) free)
        go false e = refl

    fits : p < length taker
    fits = let n = hb.n in let e = hb.sized.entries in let m = s.table in omega arith

    taken-pool : with_block (pool_now x.entries (book_of b).entries taker list.bytes.now pool) p (change_at list.bytes.now i).block
        ≡ pool_now x.entries (taken_book (change_at list.bytes.now i).print p (book_of b)).entries (set taker p i) list.bytes.now pool
    taken-pool =
        taken-now x.entries y.entries y'.entries taker list.bytes.now pool (change_count list.bytes.now) k p i (bound p l).1 fits
        (length-block list.bytes.now list.shape list.whole i h) free-old taken_here taken-other

    taken-work : take_block (change_at list.bytes.now i) p (work_of x pool list.bytes.now (book_of b) taker t)
        ≡ work_of x pool list.bytes.now (taken_book (change_at list.bytes.now i).print p (book_of b)) (set taker p i)
        (record { taken = t.taken + 1; touched = t.touched })
    unfolding take_block
    taken-work = rw (taken-pool, add-one)

    taken-standing : Standing x (taken_book (change_at list.bytes.now i).print p (book_of b)) (set taker p i)
        (record { taken = t.taken + 1; touched = t.touched }) (i + 1) i
    unfolding with_cursor with_entries
    taken-standing = record {
      sizes = s.sizes;
      slots = s.slots;
      cursor = mod-lt (suc p) (let e = hb.sized.entries in omega arith);
      maps = s.maps;
      records = s.records;
      kept = λ q e. kept q e (eqb q p) refl;
      marks = λ q f e. marks q f e (eqb q p) refl;
      table = length-set taker p i ∙ s.table;
      taken = let z = s.taken in omega arith;
      touched = s.touched;
    }
      where
        kept : (q : ℕ) → (entry_at x.entries q).held ≡ true → (u : Bool) → eqb q p ≡ u → (entry_at y'.entries q).held ≡ true
        kept q e true z = rw (eqb-true q p z) taken_here
        kept q e false z = taken-other q (eqb-false q p z) ∙ s.kept q e

        marks : (q : ℕ) → (entry_at x.entries q).held ≡ false → (entry_at y'.entries q).held ≡ true → (u : Bool)
            → eqb q p ≡ u → get_or (set taker p i) q 0 < i + 1
        marks q f e true z = rw (eqb-true q p z, get_or-set_same taker p i 0 fits) (omega arith)
        marks q f e false z =
            let d = eqb-false q p z in
            rw (get_or-set_other taker p q i 0 d) (let m = s.marks q f (sym (taken-other q d) ∙ e) in omega arith)

  pub taken-by : (q : PBN) (b' taker' : List ℕ) → find_held (book_of b).entries (change_at list.bytes.now i).print ≡ none
      → find_free (book_of b).entries (book_of b).cursor ≡ some q.0
      → Is b' (taken_book (change_at list.bytes.now i).print q.0 (book_of b)) → taker' ≡ set taker q.0 i
      → PlacedAt x pool list.bytes.now i b taker t q (record { taken = t.taken + 1; touched = t.touched }) b' taker'
  unfolding with_cursor with_entries
  taken-by q b' taker' e f is m =
      let r = found-free y.entries y.cursor q.0 f in
      rw (is.book, m) (
        place-taken c w q.0 e f ∙ ap (λ (u : Work). accepted (record { pbn = q.0; work = u })) (taken-work q.0 r.0 r.1),
        refl,
        (bound q.0 r.0).0,
        is.holds,
        taken-standing q.0 r.0 r.1,
      )

-- the lookup by a part of the fingerprints is the lookup of a change
pub sought : (b list f : List ℕ) (n i : ℕ) {r : Option PBN} → r ≡ found_of (find_held (book_of b).entries (part f (i * print_size) print_size))
    → f ≡ part list (prints_from list) (n * print_size) → i < n
    → found_of (find_held (book_of b).entries (change_at list i).print) ≡ r
sought b list f n i e g h =
    sym (e ∙ ap (λ (f : List ℕ). found_of (find_held (book_of b).entries f))
    (ap (λ (f : List ℕ). part f (i * print_size) print_size) g ∙ print-part list n i h))

-- the fingerprints are a part of the list
pub prints-size : (list : ChangeList)
    → length (part list.bytes.now (prints_from list.bytes.now) (list.shape.changes * print_size)) ≡ list.shape.changes * print_size
unfolding prints_from
prints-size list =
    let e = list.whole.size in let f = list.whole.pairs in
    length_part list.bytes.now (prints_from list.bytes.now) (list.shape.changes * print_size) (omega arith)

-- the two writers of a taken block
pub taken_is : (f : List ℕ) (p k : ℕ) (b b₁ b₂ : List ℕ) → k ≡ suc p % (book_of b).sizes.n
    → Is b₁ (with_entry (held_as f) p (book_of b)) → Is b₂ (with_cursor k (book_of b₁))
    → Is b₂ (taken_book f p (book_of b))
taken_is f p k b b₁ b₂ e i j = is_same (rw e) (is-then (with_cursor k) i j)
