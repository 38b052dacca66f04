-- The calls on the bytes of a book do what the calls on the book do, where the bytes are in form and say that book.
use Prim.Native.Nat.{ℕ, ◌≤◌, ◌*◌}
use mathlib.Core.Path.{◌≡◌, refl, sym, ap, ◌∙◌}
use mathlib.Core.Bool.{Bool, true, false, not, ◌&&◌}
use mathlib.Core.List.{List}
use native.Mathlib.Omega.{arith}
use lib.Dec.{eqb}
use lib.ListN.{length}
use borrow.Author.Tests.{le-ltb, eq-eqb}
use Rattle.words.proofs.Accepted.{unless-accepted}
use Rattle.words.specs.Blocks.{block_size}
use Rattle.words.specs.Choice.{when◌then◌else◌}
use Rattle.words.proofs.ChoiceLaws.{and_true}
use Rattle.words.specs.Outcome.{accepted, and_then, unless}
use Rattle.book.specs.Book.{Sizes, Book}
use Rattle.book.specs.Layout.{book_size, bytes, book_of, sizes_of}
use Rattle.book.specs.Form.{sizes_ok, form_number}
use Rattle.book.specs.Next.{fresh}
use Rattle.model.specs.Pool.{pool_size}
use Rattle.model.specs.Enrol.{enrol}
use Rattle.model.specs.Backup.{backup}
use Rattle.model.specs.Collect.{collect}
use Rattle.model.specs.Read.{image, read}
use Rattle.model.specs.Restore.{restore}
use Rattle.model.specs.Audit.{audit}
use Rattle.model.specs.OnBytes.{number_of, pool_number, spare_number, format_number, format_bytes, enrol_bytes, backed_bytes, backup_bytes, retired_bytes, retire_bytes}
use Rattle.model.specs.OnBytes.{collected_bytes, collect_bytes, read_bytes, read_number_bytes, read_place_bytes, restore_bytes, audit_bytes}
use Rattle.model.specs.Retire.{retire}

-- an accepted format leaves the bytes of a fresh book
pub format_on_bytes : (b : List ℕ) (z : Sizes) (b' : List ℕ) → format_bytes b z ≡ accepted b' → (sizes_ok z ≡ true) × (b' ≡ bytes (fresh z))
unfolding format_bytes format_number
format_on_bytes b z b' e =
    let a = unless-accepted (format_number b z) (accepted (bytes (fresh z))) b' e in
    ((and_true (sizes_ok z) (eqb (length b) (book_size z)) (go (sizes_ok z && eqb (length b) (book_size z)) a.0)).0, cc a.1)
  where
    go : (t : Bool) → ◌≡◌ {A = ℕ} (when not t then 1 else 0) 0 → t ≡ true
    go true k = refl
    go false k = absurd (omega arith)

module _ {x : Book} (form : form_number (bytes x) ≡ 0) (book : book_of (bytes x) ≡ x) where
  pub enrol-on-bytes : (v r : ℕ) → enrol_bytes (bytes x) v r ≡ and_then (enrol x v r) (λ y. accepted (bytes y))
  unfolding enrol_bytes
  enrol-on-bytes v r = rw (form, book)

  pub collect-on-bytes : (t : ℕ) → collect_bytes (bytes x) t ≡ and_then (collect x t) (λ d. accepted (collected_bytes d))
  unfolding collect_bytes
  collect-on-bytes t = rw (form, book)

  pub audit-on-bytes : audit_bytes (bytes x) ≡ accepted (audit x)
  unfolding audit_bytes
  audit-on-bytes = rw (form, book)

  -- ---- with a spare

  module _ (size : length (bytes x) ≡ book_size x.sizes) (spare : ℕ) (enough : book_size x.sizes ≤ spare) where
    spare-passes : spare_number (bytes x) spare ≡ 0
    unfolding spare_number
    spare-passes = rw (le-ltb spare (length (bytes x)) (rw size enough))

    pub retire-on-bytes : (v t : ℕ) → retire_bytes (bytes x) spare v t ≡ and_then (retire x v t) (λ d. accepted (retired_bytes d))
    unfolding retire_bytes
    retire-on-bytes v t = rw (form, spare-passes, book)

  -- ---- with a pool

  sizes-said : sizes_of (bytes x) ≡ x.sizes
  unfolding book_of
  sizes-said = ap (λ (y : Book). y.sizes) book

  module _ (pool : List ℕ) (long : length pool ≡ pool_size x.sizes.n) where
    pool-passes : pool_number (bytes x) pool ≡ 0
    unfolding pool_number
    pool-passes =
        ap (λ (t : Bool). when not t then 3 else 0)
        (eq-eqb (length pool) (pool_size (sizes_of (bytes x)).n) (long ∙ ap (λ (z : Sizes). pool_size z.n) (sym sizes-said)))

    pub read-on-bytes : (v k lbn : ℕ) → read_bytes (bytes x) pool v k lbn ≡ read x pool v k lbn
    unfolding read_bytes
    read-on-bytes v k lbn = rw (form, pool-passes, book)

    pub read-number-on-bytes : (v k lbn : ℕ) → read_number_bytes (bytes x) pool v k lbn ≡ number_of (read x pool v k lbn)
    unfolding read_number_bytes
    read-number-on-bytes v k lbn = ap number_of (read-on-bytes v k lbn)

    pub read-place-on-bytes : (v k lbn : ℕ)
        → read_place_bytes (bytes x) pool v k lbn ≡ unless (number_of (read x pool v k lbn)) (accepted (image x v k lbn * block_size))
    unfolding read_place_bytes
    read-place-on-bytes v k lbn = rw (read-number-on-bytes v k lbn, book)

    pub restore-on-bytes : (v k first many room : ℕ)
        → restore_bytes (bytes x) pool v k first many room ≡ restore x pool v k first many room
    unfolding restore_bytes
    restore-on-bytes v k first many room = rw (form, pool-passes, book)

    -- ---- .. and a spare

    module _ (size : length (bytes x) ≡ book_size x.sizes) (spare : ℕ) (enough : book_size x.sizes ≤ spare) where
      pub backup-on-bytes : (v t : ℕ) (list : List ℕ)
          → backup_bytes (bytes x) pool spare v t list ≡ and_then (backup x pool v t list) (λ d. accepted (backed_bytes d))
      unfolding backup_bytes
      backup-on-bytes v t list = rw (form, pool-passes, spare-passes size spare enough, book)
