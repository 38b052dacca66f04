-- What an enrol leaves on each way out.
use Prim.Native.Nat.{ℕ, ◌≤◌, ◌<◌}
use mathlib.Core.Path.{◌≡◌, refl}
use mathlib.Core.Bool.{true}
use mathlib.Core.List.{List}
use lib.Dec.{ltb, eqb}
use borrow.Author.Tests.{lt-ltb, le-ltb, eq-eqb, ne_eqb}
use Rattle.words.proofs.Accepted.{unless-refused}
use Rattle.words.proofs.ChoiceLaws.{or_r}
use Rattle.words.specs.Lent.{Lent}
use Rattle.words.specs.Outcome.{refused, accepted, and_then}
use Rattle.book.specs.Book.{Book, retention_of}
use Rattle.book.specs.Layout.{bytes, book_of, Is}
use Rattle.book.specs.Form.{form_number}
use Rattle.book.specs.Next.{with_retention}
use Rattle.book.proofs.Holding.{bytes-is}
use Rattle.model.specs.Days.{bad_retention}
use Rattle.model.specs.Enrol.{enrol_number, enrol}
use Rattle.model.specs.OnBytes.{enrol_bytes}
use Rattle.setup.specs.Promises.{Enrolled}

-- ---- numbers 5 and 6

module _ (x : Book) (v r : ℕ) where
  pub number-above : 7 < v → enrol_number x v r ≡ 5
  unfolding enrol_number
  number-above h = rw (lt-ltb 7 v h)

  pub number-enrolled : (retention_of x v ≡ 0 → ⊥) → enrol_number x v r ≡ 5
  unfolding enrol_number
  number-enrolled h = rw (ne_eqb (retention_of x v) 0 h, or_r (ltb 7 v) true refl)

  module _ (h : v ≤ 7) (e : retention_of x v ≡ 0) where
    pub number-zero : r ≡ 0 → enrol_number x v r ≡ 6
    unfolding enrol_number bad_retention
    number-zero z = rw (le-ltb 7 v h, eq-eqb (retention_of x v) 0 e, eq-eqb r 0 z)

    pub number-long : 5000 < r → enrol_number x v r ≡ 6
    unfolding enrol_number bad_retention
    number-long l = rw (le-ltb 7 v h, eq-eqb (retention_of x v) 0 e, lt-ltb 5000 r l, or_r (eqb r 0) true refl)

    pub number-none : (r ≡ 0 → ⊥) → r ≤ 5000 → enrol_number x v r ≡ 0
    unfolding enrol_number bad_retention
    number-none z l = rw (le-ltb 7 v h, eq-eqb (retention_of x v) 0 e, ne_eqb r 0 z, le-ltb 5000 r l)

-- ---- the ways out

module _ (book : Lent (List ℕ)) (v r : ℕ) where
  abbrev b : List ℕ
  b = book.entry.now

  module _ (same : book.exit.now ≡ b) where
    left : (k : ℕ) → enrol_bytes b v r ≡ refused k → Enrolled book v r k
    left k e = record { number = rw e; book = rw e same }

    pub enrol_misformed : (k : ℕ) → k ≡ form_number b → (k ≡ 0 → ⊥) → Enrolled book v r k
    unfolding enrol_bytes
    enrol_misformed k e h = left k (rw (← e) (unless-refused k (and_then (enrol (book_of b) v r) (λ x. accepted (bytes x))) h))

    pub enrol-refused : form_number b ≡ 0 → (k : ℕ) → k ≡ enrol_number (book_of b) v r → (k ≡ 0 → ⊥) → Enrolled book v r k
    unfolding enrol_bytes enrol
    enrol-refused f k e h = left k (rw (f, ← e, unless-refused k (accepted (with_retention v r (book_of b))) h))

  pub enrol-done : form_number b ≡ 0 → enrol_number (book_of b) v r ≡ 0 → Is book.exit.now (with_retention v r (book_of b))
      → Enrolled book v r 0
  unfolding enrol_bytes enrol
  enrol-done f e i = record { number = rw (f, e); book = rw (f, e) (bytes-is i) }
