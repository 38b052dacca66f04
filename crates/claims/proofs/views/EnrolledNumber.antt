-- The number of a call that shows a volume: what refuses it, and what it says that it is passed.
use Prim.Native.Nat.{ℕ, ◌≤◌, ◌<◌}
use mathlib.Core.Path.{◌≡◌, refl, ◌∙◌}
use mathlib.Core.Bool.{Bool, true, false, not, ◌||◌}
use mathlib.Core.List.{List}
use native.Mathlib.Omega.{arith}
use lib.Dec.{ltb, eqb}
use borrow.Author.Tests.{lt-ltb, le-ltb, ltb-false, eq-eqb, ne_eqb, eqb-true, eqb-false}
use Rattle.words.specs.Choice.{when◌then◌else◌}
use Rattle.words.proofs.ChoiceLaws.{or_l, or_r}
use Rattle.book.specs.Book.{volumes, retention_of}
use Rattle.book.specs.Layout.{book_of}
use Rattle.book.specs.Form.{form_number, enrolled}
use Rattle.model.specs.Journal.{no_volume}
use Rattle.model.specs.Views.{enrolled_number}

-- a book in form has the volume enrolled
pub record IsEnrolled (b : List ℕ) (v : ℕ) : Type 0 where
  pub form : form_number b ≡ 0
  pub inside : v < volumes
  pub retained : retention_of (book_of b) v ≡ 0 → ⊥

module _ (b : List ℕ) (v : ℕ) where
  pub enrolled_misformed : {r : ℕ} → r ≡ form_number b → (r ≡ 0 → ⊥) → r ≡ enrolled_number b v
  unfolding enrolled_number
  enrolled_misformed e h = rw (ne_eqb (form_number b) 0 (λ z. h (e ∙ z))) e

  module _ (f : form_number b ≡ 0) where
    refused-volume : no_volume (book_of b) v ≡ true → 5 ≡ enrolled_number b v
    unfolding enrolled_number
    refused-volume e = rw (f, e)

    pub enrolled-above : 7 < v → 5 ≡ enrolled_number b v
    unfolding no_volume
    enrolled-above h = refused-volume (or_l (ltb 7 v) (not (enrolled (book_of b) v)) (lt-ltb 7 v h))

    pub enrolled_not : retention_of (book_of b) v ≡ 0 → 5 ≡ enrolled_number b v
    unfolding no_volume
    enrolled_not e =
        refused-volume (or_r (ltb 7 v) (not (enrolled (book_of b) v)) (rw (eq-eqb (retention_of (book_of b) v) 0 e)))

    pub enrolled-passed : v ≤ 7 → (retention_of (book_of b) v ≡ 0 → ⊥) → 0 ≡ enrolled_number b v
    unfolding enrolled_number no_volume
    enrolled-passed h n = rw (f, le-ltb 7 v h, ne_eqb (retention_of (book_of b) v) 0 n)

  pub passed-enrolled : enrolled_number b v ≡ 0 → IsEnrolled b v
  unfolding enrolled_number no_volume
  passed-enrolled = go (eqb (form_number b) 0) (ltb 7 v) (eqb (retention_of (book_of b) v) 0) refl refl refl
    where
      go : (f a n : Bool) → eqb (form_number b) 0 ≡ f → ltb 7 v ≡ a → eqb (retention_of (book_of b) v) 0 ≡ n
          → (when f then (when a || not (not n) then 5 else 0) else form_number b) ≡ 0 → IsEnrolled b v
      go true false false ef ea en e = record {
        form = eqb-true (form_number b) 0 ef;
        inside = omega (arith, ltb-false 7 v ea);
        retained = eqb-false (retention_of (book_of b) v) 0 en;
      }
      go true true n ef ea en e = absurd (omega arith)
      go true false true ef ea en e = absurd (omega arith)
      go false a n ef ea en e = absurd (eqb-false (form_number b) 0 ef e)
