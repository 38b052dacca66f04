-- An entry stored in a layout, and the entries that are left to store.
use Prim.Native.Nat.{ℕ, ◌+◌, ◌*◌, ◌≤◌, ◌<◌}
use mathlib.Core.Bool.{true}
use mathlib.Core.Path.{◌≡◌, ap, subst, ◌∙◌}
use mathlib.Core.List.{List, [], ◌∷◌, ◌++◌}
use native.Mathlib.Nat.{suc-mul, mul-le-mul_right}
use native.Mathlib.Numerals.{add-one}
use native.Mathlib.Omega.{arith}
use lib.ListN.{length, get_or, set, drop, drop_of_length-le}
use lib.Seq.{sets, drop-cons, length-sets}
use borrow.Author.Tests.{leb-true, eq-eqb, ne_eqb}
use Rattle.words.proofs.Filling.{put_as}
use Rattle.words.proofs.LayingLaws.{sets-next, Left, left-room, left-more, left-none}
use Rattle.words.specs.Laying.{Stored}
use Rattle.words.specs.Numbers.{two, put}
use Rattle.words.specs.Sections.{flat, part}
use Rattle.words.specs.Lists.{all}
use Rattle.words.proofs.Places.{all-place}
use Rattle.book.proofs.Bytes.{entry-size}
use Rattle.book.specs.Book.{Entry, Book, free_entry, entry_at, Sized}
use Rattle.book.proofs.Read.{entry-at}
use Rattle.book.proofs.Split.{entry-parts}
use Rattle.book.specs.FormFacts.{FormFactsAs}
use Rattle.book.specs.Layout.{count_size, entry_size, entries_from, entry_offset, count_bytes, entry_bytes, count_in, book_of}
use Rattle.model.specs.Convert.{is_narrow}

-- ---- one entry

module _ {out out₁ out₂ : List ℕ} (rest : List ℕ) (layout at c : ℕ) (long : length rest ≡ 19) where
  pub narrow-stored : layout ≡ 1 → out₁ ≡ set out at c → out₂ ≡ sets out₁ (at + 1) rest
      → Stored out at (count_bytes layout c ++ rest) out₂ (at + 20)
  narrow-stored e e₁ e₂ =
      rw (eq-eqb layout 1 e)
      (record {
        list = e₂ ∙ ap (λ (o : List ℕ). sets o (at + 1) rest) e₁ ∙ sets-next (c ∷ []) rest out at (at + 1) (omega arith);
        place = omega (arith, long);
      })

  pub wide-stored : {v : ℕ} → (layout ≡ 1 → ⊥) → out₁ ≡ put out at v → v ≡ c → out₂ ≡ sets out₁ (at + 2) rest
      → Stored out at (count_bytes layout c ++ rest) out₂ (at + 21)
  wide-stored n e₁ ev e₂ =
      rw (ne_eqb layout 1 n)
      (record {
        list =
            e₂ ∙ ap (λ (o : List ℕ). sets o (at + 2) rest) (put_as out at c e₁ ev) ∙ sets-next (two c) rest out at (at + 2) (omega arith);
        place = omega (arith, long);
      })

-- ---- the entries from p on are left

abbrev from : ℕ → Book → ℕ → List ℕ
from to x p = flat (entry_bytes to) (drop p x.entries)

-- `taken` is where entry p stands in the book of layout g
pub record Entered (g to : ℕ) (x : Book) (old out : List ℕ) (taken at p : ℕ) : Type 0 where
  pub left : Left old entries_from (from to x 0) out at (from to x p)
  pub kept : length out ≡ length old
  pub place : taken ≡ entry_offset g p

module _ (g to : ℕ) (x : Book) (s : Sized x) where
  entry_next : (p : ℕ) → p < x.sizes.n → from to x p ≡ entry_bytes to (entry_at x.entries p) ++ from to x (p + 1)
  entry_next p h = let hp : p < length x.entries = omega (arith, s.entries) in rw (add-one p, drop-cons x.entries p free_entry)

  pub entered-room : {old out : List ℕ} {taken at p : ℕ} → Entered g to x old out taken at p → p < x.sizes.n
      → at + entry_size to ≤ length out
  entered-room {p = p} r h =
      let e = entry_at x.entries p in
      omega (arith, left-room r.left (entry_bytes to e) (from to x (p + 1)) (entry_next p h), entry-size to e)

  pub entered-more : {old out out' : List ℕ} {taken taken' at at' p : ℕ} → Entered g to x old out taken at p → p < x.sizes.n
      → taken' ≡ taken + entry_size g → Stored out at (entry_bytes to (entry_at x.entries p)) out' at'
      → Entered g to x old out' taken' at' (p + 1)
  entered-more {out = out} {at = at} {p = p} r h n t =
      let row = entry_bytes to (entry_at x.entries p) in
      record {
        left = left-more r.left row (from to x (p + 1)) (entry_next p h) t;
        kept = ap length t.list ∙ length-sets out at row ∙ r.kept;
        place = omega (arith, r.place, n, suc-mul p (entry_size g), ap (λ (k : ℕ). k * entry_size g) (add-one p));
      }

  pub entered_all : {old out : List ℕ} {taken at p : ℕ} → Entered g to x old out taken at p → x.sizes.n ≤ p
      → Stored old entries_from (flat (entry_bytes to) x.entries) out at
  entered_all {p = p} r h =
      let none = drop_of_length-le x.entries {i = p} (omega (arith, s.entries)) in
      left-none r.left (ap (λ (es : List Entry). flat (entry_bytes to) es) none)

-- ---- the entry that is taken

module _ (g to : ℕ) (b : List ℕ) (f : FormFactsAs g b) (small : (i : ℕ) → get_or b i 0 < 256) {p taken : ℕ}
    (hp : p < (book_of b).sizes.n) (place : taken ≡ entry_offset g p) where
  abbrev x : Book
  x = book_of b

  pub entry-inside : taken + (count_size g + 19) ≤ length b
  unfolding entry_size
  entry-inside =
      let k = entry_size g in
      omega (
        arith,
        f.holds.len,
        ap (λ (n : ℕ). x.sizes.n * entry_size n) f.layout,
        mul-le-mul_right k hp,
        suc-mul p k,
      )

  -- going back, its count is a byte
  pub count-byte : {c : ℕ} → c ≡ count_in g b taken → all is_narrow x.entries ≡ true → c < 256
  count-byte e n =
      let here = ap (λ (y : Entry). y.count) (entry-at b g p taken f.holds hp place) in
      let narrow = all-place is_narrow x.entries free_entry p n (omega (arith, f.holds.sized.entries)) in
      omega (arith, e, here, leb-true (entry_at x.entries p).count 255 narrow)

  -- with the bytes that follow the count it is the entry in the other layout
  pub entry-taken : {out out' rest : List ℕ} {c at at' : ℕ} → c ≡ count_in g b taken → rest ≡ part b (taken + count_size g) 19
      → Stored out at (count_bytes to c ++ rest) out' at' → Stored out at (entry_bytes to (entry_at x.entries p)) out' at'
  entry-taken {out} {out'} {rest} {c} {at} {at'} ec er t =
      let same : count_bytes to c ++ rest ≡ entry_bytes to (entry_at x.entries p) =
      (λ i. count_bytes to (ec i) ++ er i) ∙ entry-parts g b f.holds f.layout small p taken hp place to
      in
      subst (λ (r : List ℕ). Stored out at r out' at') same t
