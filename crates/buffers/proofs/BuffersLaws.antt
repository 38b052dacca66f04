-- Laws of numbers 1 to 3: what each test says of the number, and the number of the tests.
use Prim.Native.Nat.{ℕ, zero, suc, ◌*◌}
use mathlib.Core.Path.{◌≡◌, refl}
use mathlib.Core.Bool.{Bool, true, false}
use mathlib.Core.List.{List}
use native.Mathlib.Omega.{arith}
use lib.ListN.{length}
use borrow.Author.Tests.{eqb-true, eq-eqb, ne_eqb, not-false}
use Rattle.words.specs.Blocks.{block_size}
use Rattle.words.specs.Choice.{when◌then◌else◌}
use Rattle.words.specs.Outcome.{Outcome, unless}
use Rattle.book.specs.Layout.{book_of}
use Rattle.book.specs.Form.{form_number}
use Rattle.model.specs.OnBytes.{pool_number}
use Rattle.buffers.specs.Buffers.{or_number, buffers_number}

-- ---- numbers in order

pub or-first : (j k : ℕ) → (j ≡ 0 → ⊥) → or_number j k ≡ j
or-first zero k h = absurd (h refl)
or-first (suc j) k h = refl

pub or-zero : (j k : ℕ) → or_number j k ≡ 0 → (j ≡ 0) × (k ≡ 0)
or-zero zero k e = (refl, e)
or-zero (suc j) k e = absurd (omega arith)

pub unless-or : {A : Type 0} (j k : ℕ) (o : Outcome A) → unless j (unless k o) ≡ unless (or_number j k) o
unless-or zero k o = refl
unless-or (suc j) k o = refl

-- a test that gives 0 failed
pub if_zero : (t : Bool) (k : ℕ) → (when t then suc k else 0) ≡ 0 → t ≡ false
if_zero true k e = absurd (omega arith)
if_zero false k e = refl

-- ---- numbers 1 to 3

module _ (b pool : List ℕ) where
  pub buffers_form : (form_number b ≡ 0 → ⊥) → buffers_number b pool ≡ form_number b
  unfolding buffers_number
  buffers_form n = or-first (form_number b) (pool_number b pool) n

  pub buffers_pool : form_number b ≡ 0 → (length pool ≡ (book_of b).sizes.n * block_size → ⊥) → buffers_number b pool ≡ 3
  unfolding buffers_number pool_number book_of
  buffers_pool e n = rw (e, ne_eqb (length pool) ((book_of b).sizes.n * block_size) n)

  pub buffers_good : form_number b ≡ 0 → length pool ≡ (book_of b).sizes.n * block_size → buffers_number b pool ≡ 0
  unfolding buffers_number pool_number book_of
  buffers_good e h = rw (e, eq-eqb (length pool) ((book_of b).sizes.n * block_size) h)

  pub pool-size : pool_number b pool ≡ 0 → length pool ≡ (book_of b).sizes.n * block_size
  unfolding pool_number book_of
  pool-size e = eqb-true _ _ (not-false _ (if_zero _ 2 e))

  pub buffers_facts : buffers_number b pool ≡ 0 → (form_number b ≡ 0) × (length pool ≡ (book_of b).sizes.n * block_size)
  unfolding buffers_number
  buffers_facts e = let f = or-zero (form_number b) (pool_number b pool) e in (f.0, pool-size f.1)

  -- the same as the two checks in order
  pub buffers_order : {A : Type 0} (o : Outcome A) → unless (form_number b) (unless (pool_number b pool) o) ≡ unless (buffers_number b pool) o
  unfolding buffers_number
  buffers_order o = unless-or (form_number b) (pool_number b pool) o
