-- The rows of the blocks, one after the other: what a row's stores leave, and the rows that are left.
use Prim.Native.Nat.{ℕ, ◌+◌, ◌≤◌, ◌<◌}
use mathlib.Core.Path.{◌≡◌, ap, ◌∙◌}
use mathlib.Core.List.{List, [], ◌∷◌, ◌++◌}
use native.Mathlib.Numerals.{add-one}
use native.Mathlib.Omega.{arith}
use lib.ListN.{length, drop, drop_of_length-le}
use lib.Seq.{sets, drop-cons}
use Rattle.words.specs.Blocks.{print_size}
use Rattle.words.specs.Lists.{bit}
use Rattle.words.proofs.LayingLaws.{sets-next, Left, left-all, left-room, left-more, left-none}
use Rattle.words.specs.Laying.{Stored}
use Rattle.words.specs.Numbers.{two}
use Rattle.words.specs.Sections.{flat}
use Rattle.book.specs.Book.{Entry, Book, free_entry, entry_at, Sized}
use Rattle.model.specs.Views.{block_row, blocks_of}
use Rattle.claims.proofs.views.RowLaws.{row-length}

-- three numbers and the fingerprint behind them are a row
pub row-stored : {out out₁ out₂ print : List ℕ} {at h c d : ℕ} (e : Entry) → length e.print ≡ print_size
    → h ≡ bit e.held → c ≡ e.count → d ≡ e.expiry → print ≡ e.print
    → out₁ ≡ sets out at (flat two (h ∷ c ∷ d ∷ [])) → out₂ ≡ sets out₁ (at + 6) print → Stored out at (block_row e) out₂ (at + 22)
row-stored {out} {out₁} {out₂} {print} {at} {h} {c} {d} e n eh ec ed ep e₁ e₂ =
    let front = flat two (h ∷ c ∷ d ∷ []) in
    let same : front ++ print ≡ block_row e = λ i. flat two (eh i ∷ ec i ∷ ed i ∷ []) ++ ep i in
    record {
      list =
          e₂
          ∙ ap (λ (o : List ℕ). sets o (at + 6) print) e₁
          ∙ sets-next front print out at (at + 6) (omega arith)
          ∙ ap (λ (r : List ℕ). sets out at r) same;
      place = omega (arith, row-length e n);
    }

-- ---- the rows from p on are left

abbrev from : Book → ℕ → List ℕ
from x p = flat block_row (drop p x.entries)

abbrev pub Rows : Book → List ℕ → List ℕ → ℕ → ℕ → Type 0
Rows x old out at p = Left old 0 (blocks_of x) out at (from x p)

module _ (x : Book) (s : Sized x) where
  pub rows_all : (out : List ℕ) → length (blocks_of x) ≤ length out → Rows x out out 0 0
  unfolding blocks_of
  rows_all out h = left-all (omega arith)

  -- row p, and those behind it
  row_next : (p : ℕ) → p < x.sizes.n → from x p ≡ block_row (entry_at x.entries p) ++ from x (p + 1)
  row_next p h = let hp : p < length x.entries = omega (arith, s.entries) in rw (add-one p, drop-cons x.entries p free_entry)

  pub rows-room : {old out : List ℕ} {at : ℕ} (p : ℕ) → Rows x old out at p → p < x.sizes.n → at + 22 ≤ length out
  rows-room p r h =
      let e = entry_at x.entries p in
      omega (arith, left-room r (block_row e) (from x (p + 1)) (row_next p h), row-length e (s.prints p h))

  pub rows_more : {old out out' : List ℕ} {at at' : ℕ} (p : ℕ) → Rows x old out at p → p < x.sizes.n
      → Stored out at (block_row (entry_at x.entries p)) out' at' → Rows x old out' at' (p + 1)
  rows_more p r h t = left-more r (block_row (entry_at x.entries p)) (from x (p + 1)) (row_next p h) t

  pub rows-done : {old out : List ℕ} {at : ℕ} (p : ℕ) → Rows x old out at p → x.sizes.n ≤ p → out ≡ sets old 0 (blocks_of x)
  rows-done p r h =
      let none = drop_of_length-le x.entries {i = p} (omega (arith, s.entries)) in
      (left-none r (ap (λ (es : List Entry). flat block_row es) none)).list
