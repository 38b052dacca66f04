-- What a read's offset comes to, as C gets it: the number that refuses it is the read's, and an offset fits 32 bits.
use Prim.Native.Nat.{ℕ, zero, suc, ◌*◌}
use mathlib.Core.Path.{◌≡◌, refl, sym}
use mathlib.Core.Logic.{⊎_elim}
use mathlib.Core.List.{List}
use native.Mathlib.Omega.{arith}
use Rattle.std.proofs.Common.{Fits, w32}
use Rattle.words.specs.Blocks.{block_size}
use Rattle.words.specs.Outcome.{Outcome, accepted, unless}
use Rattle.words.proofs.Accepted.{accepted-same, unless-accepted}
use Rattle.book.specs.Form.{form_number}
use Rattle.book.specs.Layout.{book_of}
use Rattle.book.proofs.Clauses.{book-parts}
use Rattle.book.proofs.FormBytes.{book-form}
use Rattle.book.proofs.SizesIn.{sizes-facts}
use Rattle.claims.proofs.form.ImageIn.{image_in}
use Rattle.model.specs.OnBytes.{number_of, pool_number, read_bytes, read_number_bytes, read_place_bytes}
use Rattle.model.specs.Read.{image, read}

unless_number : {A : Type 0} (n : ℕ) (a : A) → number_of (unless n (accepted a)) ≡ n
unless_number zero a = refl
unless_number (suc n) a = refl

none_first : {A : Type 0} (n : ℕ) (o : Outcome A) → number_of (unless n o) ≡ 0 → n ≡ 0
none_first zero o e = refl
none_first (suc n) o e = e

module _ (b pool : List ℕ) (v k lbn : ℕ) where
  pub place_number : number_of (read_place_bytes b pool v k lbn) ≡ read_number_bytes b pool v k lbn
  unfolding read_place_bytes
  place_number = unless_number (read_number_bytes b pool v k lbn) (image (book_of b) v k lbn * block_size)

  pub place-fits : {at : ℕ} → accepted at ≡ read_place_bytes b pool v k lbn → Fits w32 at
  unfolding read_place_bytes read_number_bytes read_bytes
  place-fits {at} e =
      let w = unless-accepted (read_number_bytes b pool v k lbn) (accepted (image (book_of b) v k lbn * block_size)) at (sym e) in
      let f = book-form b (none_first (form_number b) (unless (pool_number b pool) (read (book_of b) pool v k lbn)) w.0) in
      let n = sizes-facts (book_of b).sizes f.0 in
      let at_is = accepted-same (image (book_of b) v k lbn * block_size) at w.1 in
      ⊎_elim (λ l. omega arith) (λ u. omega arith) (image_in (book_of b) (book-parts (book_of b) f.1) v k lbn)
