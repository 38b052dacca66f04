-- The read calls by the search that they share.
use Prim.Native.Nat.{ℕ, zero, suc, ◌+◌, ◌*◌, ◌≤◌}
use mathlib.Core.Path.{◌≡◌, refl, sym, ap, ◌∙◌}
use mathlib.Core.Logic.{⊎_elim}
use mathlib.Core.List.{List}
use native.Mathlib.Omega.{arith}
use lib.ListN.{length, take, drop}
use Rattle.words.proofs.Accepted.{accepted-same, unless-accepted}
use Rattle.words.proofs.Refused.{unless-refusal}
use Rattle.words.specs.Blocks.{block_size}
use Rattle.words.specs.Outcome.{Outcome, refused, accepted, and_then, unless}
use Rattle.words.specs.Refusals.{number}
use Rattle.words.specs.declared.refusals.Refusal.{Refusal}
use Rattle.book.specs.Layout.{book_of}
use Rattle.book.specs.Form.{form_number}
use Rattle.book.proofs.Clauses.{book-parts}
use Rattle.book.proofs.FormBytes.{book-form}
use Rattle.model.specs.OnBytes.{number_of, pool_number, read_bytes, read_number_bytes, read_place_bytes}
use Rattle.model.specs.Pool.{block_at}
use Rattle.model.specs.Read.{image, read_number, read}
use Rattle.claims.proofs.form.ImageIn.{image_in}
use Rattle.buffers.specs.Buffers.{buffers_number}
use Rattle.buffers.proofs.BuffersLaws.{pool-size, buffers_order}
use Rattle.restorer.specs.Reading.{sought_in, sought_bytes}
use Rattle.restorer.proofs.ReadingLaws.{number_mapped}

then-unless : {A B : Type 0} (n : ℕ) (o : Outcome A) (f : A → Outcome B) → and_then (unless n o) f ≡ unless n (and_then o f)
then-unless zero o f = refl
then-unless (suc n) o f = refl

-- an outcome behind three numbers, by the number of another one behind them
same_numbers : {A B C : Type 0} (l m n : ℕ) (a : A) (f : A → B) (g : A → C)
    → unless (number_of (and_then (unless l (unless m (unless n (accepted a)))) (λ x. accepted (f x)))) (accepted (g a))
    ≡ and_then (unless l (unless m (unless n (accepted a)))) (λ x. accepted (g x))
same_numbers (suc l) m n a f g = refl
same_numbers zero (suc m) n a f g = refl
same_numbers zero zero (suc n) a f g = refl
same_numbers zero zero zero a f g = refl

module _ (b pool : List ℕ) (v k lbn : ℕ) where
  -- ---- the search behind numbers 1 to 3

  pub sought_stopped : (e : Refusal) → number e ≡ buffers_number b pool → refused (number e) ≡ sought_bytes b pool v k lbn
  unfolding sought_bytes
  sought_stopped e h = sym (buffers_order b pool (sought_in (book_of b) v k lbn) ∙ unless-refusal e _ h)

  pub sought_on : buffers_number b pool ≡ 0 → sought_bytes b pool v k lbn ≡ sought_in (book_of b) v k lbn
  unfolding sought_bytes
  sought_on e = buffers_order b pool (sought_in (book_of b) v k lbn) ∙ rw e

  -- ---- the definitions by the search

  read_sought : read_bytes b pool v k lbn ≡ and_then (sought_bytes b pool v k lbn) (λ p. accepted (block_at pool p))
  unfolding read_bytes sought_bytes read sought_in
  read_sought = simp then-unless

  offset_sought : read_place_bytes b pool v k lbn ≡ and_then (sought_bytes b pool v k lbn) (λ p. accepted (p * block_size))
  unfolding read_place_bytes read_number_bytes sought_bytes sought_in
  offset_sought =
      rw read_sought (same_numbers (form_number b) (pool_number b pool) (read_number (book_of b) v k lbn)
      (image (book_of b) v k lbn) (block_at pool) (λ p. p * block_size))

  -- ---- what each call makes of the search's answer

  module _ (n : ℕ) (e : refused n ≡ sought_bytes b pool v k lbn) where
    pub block_refused : refused n ≡ read_bytes b pool v k lbn
    block_refused = rw (read_sought, ← e)

    pub offset_refused : refused n ≡ read_place_bytes b pool v k lbn
    offset_refused = rw (offset_sought, ← e)

    pub number_refused : n ≡ read_number_bytes b pool v k lbn
    unfolding read_number_bytes
    number_refused = ap (λ (o : Outcome (List ℕ)). number_of o) block_refused

  module _ (p : ℕ) (e : accepted p ≡ sought_bytes b pool v k lbn) where
    -- of a part of the pool
    pub block-at : {from many : ℕ} → from ≡ p * block_size → many ≡ block_size → accepted (take many (drop from pool)) ≡ read_bytes b pool v k lbn
    block-at h m = rw (h, m, read_sought, ← e)

    pub offset-at : {at : ℕ} → at ≡ p * block_size → accepted at ≡ read_place_bytes b pool v k lbn
    offset-at h = rw (h, offset_sought, ← e)

    pub number_none : 0 ≡ read_number_bytes b pool v k lbn
    unfolding read_number_bytes
    number_none = ap (λ (o : Outcome (List ℕ)). number_of o) (block-at refl refl)

    -- the block lies within the pool
    pub block_inside : p * block_size + block_size ≤ length pool
    unfolding sought_bytes sought_in
    block_inside =
        let w = unless-accepted (form_number b) (unless (pool_number b pool) (sought_in (book_of b) v k lbn)) p (sym e) in
        let u = unless-accepted (pool_number b pool) (sought_in (book_of b) v k lbn) p w.1 in
        let t = unless-accepted (read_number (book_of b) v k lbn) (accepted (image (book_of b) v k lbn)) p u.1 in
        let same = accepted-same (image (book_of b) v k lbn) p t.1 in
        let size = pool-size b pool u.0 in
        let mapped = number_mapped (book_of b) v k lbn t.0 in
        ⊎_elim (λ l. omega arith) (λ n. absurd (mapped n)) (image_in (book_of b) (book-parts (book_of b) (book-form b w.0).1) v k lbn)
