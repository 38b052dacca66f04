-- The front of the output, which is the book with layout 3 and then the same with its expiries worked out afresh.
use Prim.Native.Nat.{ℕ, ◌≤◌}
use mathlib.Core.Path.{◌≡◌, refl, sym, ap, ◌∙◌}
use mathlib.Core.List.{List, ◌++◌}
use native.Mathlib.Omega.{arith}
use lib.ListN.{length, take, drop}
use lib.Seq.{sets, take_at, drop_at}
use Rattle.words.proofs.LayingLaws.{sets-front}
use Rattle.book.proofs.Bytes.{length-bytes}
use Rattle.book.proofs.Clauses.{book-parts, parts-book}
use Rattle.book.proofs.Holding.{is-bytes, bytes-is, is_same}
use Rattle.book.specs.Book.{Book}
use Rattle.book.specs.FormFacts.{BookParts, FormFactsAs}
use Rattle.book.specs.Layout.{book_size, bytes, sizes_of, book_of, Is}
use Rattle.book.specs.Next.{sizes_in, with_layout, with_entries}
use Rattle.claims.proofs.form.ConvertFit.{layout-sized, layout-ok}
use Rattle.claims.proofs.form.Refreshed.{refreshed-layout}
use Rattle.model.specs.Convert.{refreshed}

module _ (b out : List ℕ) (f : FormFactsAs 2 b) {len : ℕ} (el : len ≡ book_size (sizes_in 3 (sizes_of b))) (room : len ≤ length out)
    {o₁ : List ℕ} (e₁ : o₁ ≡ sets out 0 (bytes (with_layout 3 (book_of b)))) where
  abbrev x : Book
  x = book_of b

  abbrev c : List ℕ
  c = bytes (with_layout 3 x)

  long : length c ≡ len
  unfolding with_layout book_of
  long = length-bytes (with_layout 3 x) ∙ sym el

  same : o₁ ≡ c ++ drop len out
  same = e₁ ∙ sets-front c out (omega (arith, long)) ∙ ap (λ (n : ℕ). c ++ drop n out) long

  pub front-is : Is (take len o₁) (with_layout 3 x)
  unfolding with_layout
  front-is =
      is-bytes (with_layout 3 x) (layout-sized 3 x f.holds.sized)
      (record { wide = refl; n = f.holds.n; l = f.holds.l; s = f.holds.s; j = f.holds.j })
      (ap (λ (o : List ℕ). take len o) same ∙ take_at c (drop len out) len long)

  pub front-parts : BookParts (book_of (take len o₁))
  front-parts = rw front-is.book (book-parts (with_layout 3 x) (layout-ok 3 x (rw f.layout) (parts-book x f.parts)))

  long_renewed : length (bytes (with_layout 3 (refreshed x))) ≡ len
  unfolding with_layout refreshed with_entries book_of
  long_renewed = length-bytes (with_layout 3 (refreshed x)) ∙ sym el

  pub renewed : {front o₂ : List ℕ} → Is front (refreshed (book_of (take len o₁))) → o₂ ≡ front ++ drop len o₁
      → o₂ ≡ sets out 0 (bytes (with_layout 3 (refreshed x)))
  renewed {front} {o₂} i e =
      let c' = bytes (with_layout 3 (refreshed x)) in
      let bytes-front : front ≡ c' = bytes-is (is_same (ap refreshed front-is.book ∙ refreshed-layout 3 x) i) in
      let rest : drop len o₁ ≡ drop len out = ap (λ (o : List ℕ). drop len o) same ∙ drop_at c (drop len out) len long in
      e ∙ (λ j. bytes-front j ++ rest j) ∙ ap (λ (n : ℕ). c' ++ drop n out) (sym long_renewed)
      ∙ sym (sets-front c' out (omega (arith, long_renewed)))
