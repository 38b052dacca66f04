-- The number of form, taken apart, and what it takes to be other than 1.
use Prim.Native.Nat.{ℕ, ◌*◌}
use mathlib.Core.Path.{◌≡◌, ap}
use mathlib.Core.Logic.{◌⊎◌, inl, inr}
use mathlib.Core.Bool.{true, false, ◌&&◌}
use mathlib.Core.List.{List}
use native.Mathlib.Omega.{arith}
use lib.Dec.{leb, eqb}
use lib.ListN.{length}
use Rattle.words.specs.Numbers.{num}
use borrow.Author.Tests.{leb-true, eqb-true}
use Rattle.words.proofs.ChoiceLaws.{and_true, true_and, true_or_false}
use Rattle.book.specs.Layout.{header_size, entry_size, n_offset, book_size, sizes_of, book_of}
use Rattle.book.specs.Form.{sizes_as, layout_as, book_ok, raw_ok, form_as}
use Rattle.book.proofs.SizesIn.{sizes_as_lem}
use Rattle.book.specs.FormFacts.{Laid}

-- 1 without the layout; then 2 or 0
pub number_1 : (g : ℕ) (b : List ℕ) → layout_as g b ≡ false → form_as g b ≡ 1
unfolding form_as
number_1 g b e = rw e

module _ (g : ℕ) (b : List ℕ) (e : layout_as g b ≡ true) where
  pub number_2 : (raw_ok b && book_ok (book_of b)) ≡ false → form_as g b ≡ 2
  unfolding form_as
  number_2 f = rw (e, f)

  pub number_0 : (raw_ok b && book_ok (book_of b)) ≡ true → form_as g b ≡ 0
  unfolding form_as
  number_0 f = rw (e, f)

-- it is one of the three
pub form-cases : (g : ℕ) (b : List ℕ) → (form_as g b ≡ 0) ⊎ ((form_as g b ≡ 1) ⊎ (form_as g b ≡ 2))
form-cases g b = go (true_or_false (layout_as g b)) (true_or_false (raw_ok b && book_ok (book_of b)))
  where
    go : ((layout_as g b ≡ true) ⊎ (layout_as g b ≡ false))
        → (((raw_ok b && book_ok (book_of b)) ≡ true) ⊎ ((raw_ok b && book_ok (book_of b)) ≡ false))
        → (form_as g b ≡ 0) ⊎ ((form_as g b ≡ 1) ⊎ (form_as g b ≡ 2))
    go (inr e) f = inr (inl (number_1 g b e))
    go (inl e) (inr f) = inr (inr (number_2 g b e f))
    go (inl e) (inl f) = inl (number_0 g b e f)

-- 0 exactly when all three parts hold
pub form-parts : (g : ℕ) (b : List ℕ) → form_as g b ≡ 0 → (layout_as g b ≡ true) × (raw_ok b ≡ true) × (book_ok (book_of b) ≡ true)
form-parts g b z = go (true_or_false (layout_as g b)) (true_or_false (raw_ok b && book_ok (book_of b)))
  where
    go : ((layout_as g b ≡ true) ⊎ (layout_as g b ≡ false))
        → (((raw_ok b && book_ok (book_of b)) ≡ true) ⊎ ((raw_ok b && book_ok (book_of b)) ≡ false))
        → (layout_as g b ≡ true) × (raw_ok b ≡ true) × (book_ok (book_of b) ≡ true)
    go (inr e) f = absurd (omega (arith, number_1 g b e))
    go (inl e) (inr f) = absurd (omega (arith, number_2 g b e f))
    go (inl e) (inl f) = let t = and_true (raw_ok b) (book_ok (book_of b)) f in (e, t.0, t.1)

pub parts-form : (g : ℕ) (b : List ℕ) → layout_as g b ≡ true → raw_ok b ≡ true → book_ok (book_of b) ≡ true → form_as g b ≡ 0
parts-form g b e r f = number_0 g b e (true_and (raw_ok b) (book_ok (book_of b)) r f)

-- ---- number 1

pub layout-facts : (g : ℕ) (b : List ℕ) → layout_as g b ≡ true → Laid g b
unfolding layout_as
layout-facts g b e =
    let h = leb header_size (length b) in
    let k = sizes_as g (sizes_of b) in
    let t₁ = and_true (h && k) (eqb (length b) (book_size (sizes_of b))) e in
    let t₂ = and_true h k t₁.0 in
    let z = sizes_as_lem g (sizes_of b) t₂.1 in
    record {
      header = leb-true header_size (length b) t₂.0;
      sizes = z;
      len = eqb-true (length b) (book_size (sizes_of b)) t₁.1;
      entries = ap (λ (k : ℕ). num b n_offset * entry_size k) z.layout;
    }
