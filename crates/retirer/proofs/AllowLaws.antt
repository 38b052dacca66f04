-- Laws of numbers 1 to 10: what each test that the code makes says of the whole call.
use Prim.Native.Nat.{ℕ, ◌+◌, ◌≤◌, ◌<◌}
use mathlib.Core.Path.{◌≡◌, refl, ap, ◌∙◌, sym}
use mathlib.Core.Bool.{Bool, true, false}
use mathlib.Core.List.{List}
use native.Mathlib.Omega.{arith}
use lib.Dec.{leb, ltb}
use lib.ListN.{length}
use borrow.Author.Tests.{lt-ltb, le-ltb, leb-false, ltb-false}
use Rattle.words.proofs.Refused.{unless-number, unless-refusal}
use Rattle.words.specs.Choice.{when◌then◌else◌}
use Rattle.words.specs.Outcome.{Outcome, refused, accepted, and_then, unless}
use Rattle.words.specs.Refusals.{number}
use Rattle.words.specs.declared.refusals.Refusal.{Refusal}
use Rattle.book.specs.Book.{Book}
use Rattle.book.specs.Layout.{book_of}
use Rattle.book.specs.Form.{form_number}
use Rattle.model.specs.Backup.{until_next}
use Rattle.model.specs.Retire.{Retired, mapped_cells, retire_number, retired, retire}
use Rattle.model.specs.OnBytes.{spare_number, RetiredBytes, retired_bytes, retire_bytes}
use Rattle.permit.specs.Allowing.{day_refused, volume_number, room_number}
use Rattle.permit.proofs.AllowLaws.{two-first, two_past, then-then}
use Rattle.retirer.specs.Clearing.{clear_all}
use Rattle.retirer.specs.Allowing.{goes_on}

-- ---- numbers 5 to 10, in order

module _ (x : Book) (v t : ℕ) where
  pub by-volume : (volume_number x v t ≡ 0 → ⊥) → retire_number x v t ≡ volume_number x v t
  unfolding retire_number day_refused
  by-volume n = two-first x v t _ n

  pub by-room : volume_number x v t ≡ 0 → retire_number x v t ≡ room_number x (mapped_cells x v)
  unfolding retire_number day_refused room_number
  by-room e = two_past x v t _ e

-- 9 and 10 for n cells, where n is how many there are
pub room_says : {n full : ℕ} (x : Book) (m : ℕ) → full ≡ room_number x n → n ≡ m → room_number x m ≡ full
room_says x m e f = ap (λ (k : ℕ). room_number x k) (sym f) ∙ sym e

-- where neither 9 nor 10 refuses, there is room
pub room-facts : (x : Book) (n : ℕ) → room_number x n ≡ 0 → (length x.slots < x.sizes.s) × (length x.records + n ≤ x.sizes.j)
unfolding room_number
room-facts x n e = go (leb x.sizes.s (length x.slots)) (ltb x.sizes.j (length x.records + n)) refl refl e
  where
    go : (a b : Bool) → leb x.sizes.s (length x.slots) ≡ a → ltb x.sizes.j (length x.records + n) ≡ b
        → ◌≡◌ {A = ℕ} (when a then 9 else when b then 10 else 0) 0 → (length x.slots < x.sizes.s) × (length x.records + n ≤ x.sizes.j)
    go true b f g z = absurd (omega arith)
    go false true f g z = absurd (omega arith)
    go false false f g z = (leb-false _ _ f, ltb-false _ _ g)

-- ---- the call

module _ (b : List ℕ) (spare v t : ℕ) where
  abbrev inner : Outcome RetiredBytes
  inner = and_then (retire (book_of b) v t) (λ (d : Retired). accepted (retired_bytes d))

  pub form-refused : (e : Refusal) → number e ≡ form_number b → retire_bytes b spare v t ≡ refused (number e)
  unfolding retire_bytes
  form-refused e h = unless-refusal e (unless (spare_number b spare) inner) h

  module _ (f : form_number b ≡ 0) where
    pub spare-refused : spare < length b → retire_bytes b spare v t ≡ refused 4
    unfolding retire_bytes spare_number
    spare-refused h = rw (f, lt-ltb _ _ h)

    module _ (l : length b ≤ spare) where
      by_number : retire_bytes b spare v t ≡ and_then (retire (book_of b) v t) (λ (d : Retired). accepted (retired_bytes d))
      unfolding retire_bytes spare_number
      by_number = rw (f, le-ltb _ _ l)

      pub number-refused : (r : Refusal) → retire_number (book_of b) v t ≡ number r → retire_bytes b spare v t ≡ refused (number r)
      unfolding retire
      number-refused r e =
          by_number ∙ rw e
          (ap (λ (o : Outcome Retired). and_then o (λ (d : Retired). accepted (retired_bytes d)))
          (unless-number r (and_then (clear_all v (until_next (book_of b) v) (book_of b))
          (λ (y : Book). accepted (retired (book_of b) v t y)))))

      pub goes_on_lem : retire_number (book_of b) v t ≡ 0 → retire_bytes b spare v t ≡ goes_on (book_of b) v t
      unfolding retire
      goes_on_lem e =
          by_number ∙ rw e
          (then-then (clear_all v (until_next (book_of b) v) (book_of b)) (retired (book_of b) v t) retired_bytes)
