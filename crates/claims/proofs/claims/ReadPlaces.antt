-- Where a read says that its block stands in the pool, that block stands: `read_place_bytes` and `read_bytes` are one read.
use Prim.Native.Nat.{ℕ, zero, suc, ◌*◌}
use mathlib.Core.Path.{◌≡◌, refl}
use mathlib.Core.List.{List}
use Rattle.words.specs.Blocks.{block_size}
use Rattle.words.specs.Outcome.{accepted, and_then, unless}
use Rattle.words.specs.Sections.{part}
use Rattle.book.specs.Layout.{book_of}
use Rattle.book.specs.Form.{form_number}
use Rattle.model.specs.Pool.{block_at}
use Rattle.model.specs.Read.{image, read_number, read}
use Rattle.model.specs.OnBytes.{number_of, pool_number, read_bytes, read_number_bytes, read_place_bytes}

-- of every book and every pool, in form or not
pub read-at-place : (b pool : List ℕ) (v k lbn : ℕ)
    → read_bytes b pool v k lbn ≡ and_then (read_place_bytes b pool v k lbn) (λ at. accepted (part pool at block_size))
unfolding read_place_bytes read_number_bytes read_bytes read
read-at-place b pool v k lbn = go (form_number b) (pool_number b pool) (read_number (book_of b) v k lbn) (image (book_of b) v k lbn)
  where
    go : (f p n i : ℕ) → unless f (unless p (unless n (accepted (block_at pool i))))
        ≡ and_then (unless (number_of (unless f (unless p (unless n (accepted (block_at pool i)))))) (accepted (i * block_size)))
        (λ at. accepted (part pool at block_size))
    go (suc f) p n i = refl
    go zero (suc p) n i = refl
    go zero zero (suc n) i = refl
    go zero zero zero i = refl
