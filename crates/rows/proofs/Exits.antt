-- What the two calls leave on each way out.
use Prim.Native.Nat.{ℕ, ◌*◌, ◌≤◌, ◌<◌}
use mathlib.Core.Path.{◌≡◌, ap, ◌∙◌}
use mathlib.Core.List.{List}
use native.Mathlib.Omega.{arith}
use lib.ListN.{length}
use lib.Seq.{sets}
use Rattle.words.specs.Outcome.{Outcome}
use Rattle.book.specs.Form.{form_number}
use Rattle.book.specs.Layout.{book_of, Holds}
use Rattle.model.specs.Views.{enrolled_number, blocks_of, cells_of, with_room, blocks_bytes, cells_bytes}
use Rattle.model.specs.Written.{Written}
use Rattle.claims.proofs.views.RowLaws.{blocks-length}
use Rattle.claims.proofs.views.WrittenLaws.{written-refused, written-past, written-short, written-whole}

-- ---- the blocks

-- the rows' length, by the number of blocks
pub rows-length : (b : List ℕ) {n : ℕ} → Holds b → n ≡ (book_of b).sizes.n → length (blocks_of (book_of b)) ≡ n * 22
rows-length b h e = omega (arith, blocks-length (book_of b) h.sized, e)

module _ (b out : List ℕ) where
  abbrev rows : List ℕ
  rows = blocks_of (book_of b)

  pub blocks_misformed : {r : ℕ} → r ≡ form_number b → (r ≡ 0 → ⊥) → Written (blocks_bytes b (length out)) out r out
  unfolding blocks_bytes
  blocks_misformed e n = written-refused (form_number b) (with_room rows (length out)) out e n

  module _ (f : form_number b ≡ 0) where
    pub blocks-short : length out < length rows → Written (blocks_bytes b (length out)) out 20 out
    unfolding blocks_bytes
    blocks-short h = written-past (with_room rows (length out)) f (written-short rows out h)

    pub blocks-done : {out' : List ℕ} → length rows ≤ length out → out' ≡ sets out 0 rows → Written (blocks_bytes b (length out)) out 0 out'
    unfolding blocks_bytes
    blocks-done h e = written-past (with_room rows (length out)) f (written-whole rows out h e)

-- ---- the cells

module _ (b : List ℕ) (v : ℕ) (out : List ℕ) where
  abbrev room : Outcome (List ℕ)
  room = with_room (cells_of (book_of b) v) (length out)

  pub cells-refused : {r : ℕ} → r ≡ enrolled_number b v → (r ≡ 0 → ⊥) → Written (cells_bytes b v (length out)) out r out
  unfolding cells_bytes
  cells-refused e n = written-refused (enrolled_number b v) room out e n

  module _ (p : enrolled_number b v ≡ 0) where
    pub cells-short : {row : List ℕ} → row ≡ cells_of (book_of b) v → length out < length row
        → Written (cells_bytes b v (length out)) out 20 out
    unfolding cells_bytes
    cells-short e h = written-past room p (written-short (cells_of (book_of b) v) out (omega (arith, ap length e)))

    pub cells-done : {row out' : List ℕ} → row ≡ cells_of (book_of b) v → length row ≤ length out → out' ≡ sets out 0 row
        → Written (cells_bytes b v (length out)) out 0 out'
    unfolding cells_bytes
    cells-done e h s =
        let whole = s ∙ ap (λ (r : List ℕ). sets out 0 r) e in
        written-past room p (written-whole (cells_of (book_of b) v) out (omega (arith, ap length e)) whole)
