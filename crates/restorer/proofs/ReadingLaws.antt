-- Laws of a read's checks: each way out of the code gives the number, or the block, that the definitions give.
use Prim.Native.Nat.{ℕ, ◌≤◌, ◌<◌}
use mathlib.Core.Path.{◌≡◌, refl, sym, ◌∙◌}
use mathlib.Core.Bool.{Bool, true, false, ◌||◌}
use native.Mathlib.Omega.{arith}
use lib.Dec.{leb, ltb, eqb}
use borrow.Author.Tests.{eq-eqb, ne_eqb, eqb-false, le-leb, lt-leb}
use Rattle.std.specs.Prelude.{Ok, Err}
use Rattle.words.specs.Blocks.{unmapped}
use Rattle.words.specs.Choice.{when◌then◌else◌}
use Rattle.words.specs.Outcome.{refused, accepted, unless}
use Rattle.words.specs.Refusals.{number}
use Rattle.words.specs.declared.refusals.Refusal.{Refusal}
use Rattle.words.proofs.Refused.{unless-refusal}
use Rattle.book.specs.Book.{Book, retention_of}
use Rattle.model.specs.Days.{kept}
use Rattle.model.specs.Journal.{backup_count, days, no_volume}
use Rattle.model.specs.JournalAt.{image_from}
use Rattle.model.specs.Kept.{kept_number}
use Rattle.model.specs.Read.{image, read_number}
use Rattle.claims.proofs.kept.ReadNumbers.{numbers, numbers-then}
use Rattle.keeping.specs.Kept.{KeptIs}
use Rattle.restorer.specs.Reading.{mapped_number, sought_from, sought_in}

-- ---- numbers 17 and 18

module _ (x : Book) (v at lbn : ℕ) where
  pub block_outside : x.sizes.l ≤ lbn → sought_from x v at lbn ≡ refused 17
  unfolding sought_from mapped_number
  block_outside h = rw (le-leb x.sizes.l lbn h)

  module _ (inside : lbn < x.sizes.l) (p : ℕ) (same : p ≡ image_from x v at lbn) where
    pub block-unmapped : p ≡ unmapped → sought_from x v at lbn ≡ refused 18
    unfolding sought_from mapped_number
    block-unmapped e = rw (lt-leb x.sizes.l lbn inside, ← same, eq-eqb p unmapped e)

    pub block-found : (p ≡ unmapped → ⊥) → sought_from x v at lbn ≡ accepted p
    unfolding sought_from mapped_number
    block-found n = rw (lt-leb x.sizes.l lbn inside, ← same, ne_eqb p unmapped n)

-- ---- all of them

sought_order : (x : Book) (v k lbn : ℕ)
    → sought_in x v k lbn ≡ unless (kept_number x v k)
    (unless (mapped_number x lbn (image x v k lbn)) (accepted (image x v k lbn)))
unfolding sought_in read_number kept_number mapped_number
sought_order x v k lbn =
    numbers-then (no_volume x v) (eqb k 0 || ltb (backup_count x v) k) (kept (days x v) (retention_of x v) x.day k) _
    (accepted (image x v k lbn))

pub sought_refused : (x : Book) (v k lbn : ℕ) (e : Refusal) → KeptIs x v k (Err e) → sought_in x v k lbn ≡ refused (number e)
sought_refused x v k lbn e h = sought_order x v k lbn ∙ unless-refusal e _ (sym h)

pub sought_before : (x : Book) (v k lbn at : ℕ) → KeptIs x v k (Ok at) → sought_in x v k lbn ≡ sought_from x v at lbn
unfolding sought_from image image_from
sought_before x v k lbn at h = sought_order x v k lbn ∙ rw (h.0, h.1)

-- an accepted read's block is mapped
pub number_mapped : (x : Book) (v k lbn : ℕ) → read_number x v k lbn ≡ 0 → image x v k lbn ≡ unmapped → ⊥
unfolding read_number
number_mapped x v k lbn e =
    eqb-false (image x v k lbn) unmapped
    (go (no_volume x v) (eqb k 0 || ltb (backup_count x v) k) (kept (days x v) (retention_of x v) x.day k)
    (leb x.sizes.l lbn) (eqb (image x v k lbn) unmapped) e)
  where
    go : (a b c d u : Bool) → numbers a b c (when d then 17 else when u then 18 else 0) ≡ 0 → u ≡ false
    go a b c d false f = refl
    go true b c d true f = absurd (omega arith)
    go false true c d true f = absurd (omega arith)
    go false false false d true f = absurd (omega arith)
    go false false true true true f = absurd (omega arith)
    go false false true false true f = absurd (omega arith)
