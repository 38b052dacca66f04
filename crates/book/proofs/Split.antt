-- A book's bytes in four pieces: the layout number, what follows it up to the entries, the entries, and what follows them. Layouts differ
-- in the first and in the counts of the third.
use Prim.Native.Nat.{ℕ, ◌+◌, ◌*◌, ◌≤◌, ◌<◌}
use mathlib.Core.Path.{◌≡◌, sym, ap, subst, ◌∙◌}
use mathlib.Core.List.{List, [], ◌∷◌, ◌++◌, append_assoc}
use native.Mathlib.Nat.{mul-le-mul_right, suc-mul}
use native.Mathlib.Omega.{arith}
use lib.ListN.{length, get_or, drop, length-append}
use lib.Seq.{take_at, drop_at}
use Rattle.words.proofs.SectionLaws.{length_sect, fit_all}
use Rattle.words.specs.Lists.{joined}
use Rattle.words.specs.Numbers.{two}
use Rattle.words.specs.Sections.{flat, fit, part}
use Rattle.book.specs.Book.{volumes, Entry, Book, free_entry, no_slot, no_rec, entry_at, Sized}
use Rattle.book.specs.Layout.{count_size, entry_size, entries_from, entry_offset, count_bytes, entry_bytes, map_bytes, slot_bytes}
use Rattle.book.specs.Layout.{rec_bytes, bytes, count_in, book_of, HoldsWide}
use Rattle.book.proofs.Back.{rest_part}
use Rattle.book.proofs.Bytes.{entry-size, retentions-long}
use Rattle.book.proofs.Outline.{Outline}
use Rattle.book.proofs.OutlineLaws.{shape-bytes}
use Rattle.book.proofs.Read.{entry-at}

abbrev pub middle : Book → List ℕ
middle x =
    flat two
    (x.sizes.n ∷ x.sizes.l ∷ x.sizes.s ∷ x.sizes.j ∷ length x.slots ∷ length x.records ∷ x.day ∷ x.cursor ∷ 0 ∷ [])
    ++ flat two (fit 0 volumes x.retentions)

abbrev pub tail : Book → List ℕ
tail x =
    joined
    (flat (map_bytes x.sizes.l) (fit [] volumes x.maps)
    ∷ flat slot_bytes (fit no_slot x.sizes.s x.slots)
    ∷ flat rec_bytes (fit no_rec x.sizes.j x.records)
    ∷ [])

module _ (x : Book) (s : Sized x) where
  abbrev g : ℕ
  g = x.sizes.layout

  pub bytes-split : bytes x ≡ two g ++ (middle x ++ (flat (entry_bytes g) x.entries ++ tail x))
  unfolding bytes
  bytes-split =
      ap (λ (es : List Entry). two g ++ (middle x ++ (flat (entry_bytes g) es ++ tail x)))
      (fit_all free_entry x.sizes.n x.entries s.entries)

  pub middle_long : length (middle x) ≡ 34
  middle_long = rw (retentions-long x)

  pub entries-size : (to : ℕ) → length (flat (entry_bytes to) x.entries) ≡ x.sizes.n * entry_size to
  entries-size to =
      ap (λ (es : List Entry). length (flat (entry_bytes to) es)) (sym (fit_all free_entry x.sizes.n x.entries s.entries))
      ∙ length_sect (entry_size to) (entry_bytes to) (entry-size to) free_entry x.sizes.n x.entries

-- ---- the pieces of bytes that hold a book of layout g

module _ (g : ℕ) (b : List ℕ) (h : HoldsWide (count_size g) b) (e : (book_of b).sizes.layout ≡ g) where
  abbrev x : Book
  x = book_of b

  split : b ≡ two g ++ (middle x ++ (flat (entry_bytes g) x.entries ++ tail x))
  split =
      h.same ∙ bytes-split x h.sized
      ∙ ap (λ (k : ℕ). two k ++ (middle x ++ (flat (entry_bytes k) x.entries ++ tail x))) e

  pub middle_part : part b 2 34 ≡ middle x
  middle_part =
      ap (λ (l : List ℕ). part l 2 34) split
      ∙ take_at (middle x) (flat (entry_bytes g) x.entries ++ tail x) 34 (middle_long x h.sized)

  pub tail-part : (from : ℕ) → from ≡ entries_from + x.sizes.n * entry_size g → drop from b ≡ tail x
  tail-part from ef =
      let es = flat (entry_bytes g) x.entries in
      let front = two g ++ (middle x ++ es) in
      let long : length front ≡ from =
      omega (arith, ef, length-append (middle x) es, middle_long x h.sized, entries-size x h.sized g) in
      ap (λ (l : List ℕ). drop from l) (split ∙ ap (λ (l : List ℕ). two g ++ l) (sym (append_assoc (middle x) es (tail x))))
      ∙ drop_at front (tail x) from long

  -- an entry's count, and what follows it
  module _ (small : (i : ℕ) → get_or b i 0 < 256) (p at : ℕ) (hp : p < x.sizes.n) (ea : at ≡ entry_offset g p) where
    entry-room : at + entry_size g ≤ length b
    entry-room =
        let k = entry_size g in
        omega (arith, h.len, ap (λ (n : ℕ). x.sizes.n * entry_size n) e, mul-le-mul_right k hp, suc-mul p k)

    state-small : get_or b (at + count_size g) 0 ≤ 1
    unfolding book_of
    state-small =
        let o : Outline b = subst Outline (sym h.same) (shape-bytes x h.sized) in
        rw ea (subst (λ (k : ℕ). get_or b (entry_offset k p + count_size k) 0 ≤ 1) e (o.states p hp))

    pub entry-parts : (to : ℕ) → count_bytes to (count_in g b at) ++ part b (at + count_size g) 19 ≡ entry_bytes to (entry_at x.entries p)
    unfolding entry_size
    entry-parts to =
        let here = entry-at b g p at h hp ea in
        ap (λ (r : List ℕ). count_bytes to (count_in g b at) ++ r) (sym (rest_part b small (count_size g) at entry-room state-small))
        ∙ ap (λ (y : Entry). entry_bytes to y) here
