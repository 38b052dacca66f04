-- Laws of specs/Bucket.antt.
-- The bucket of a fingerprint, and the blocks in a bucket.
use Prim.Native.Nat.{ℕ, ◌+◌, ◌<◌}
use mathlib.Core.Path.{◌≡◌, refl, ap}
use mathlib.Core.Bool.{true, false}
use mathlib.Core.List.{List}
use native.Mathlib.Omega.{arith}
use lib.Dec.{eqb}
use lib.ListN.{length}
use borrow.Author.Tests.{eqb-true, eq-eqb, ne_eqb}
use Rattle.words.proofs.ChoiceLaws.{and_true, true_and, and_false, not_both}
use Rattle.words.specs.Lists.{same}
use Rattle.words.proofs.Same.{same_equal}
use Rattle.words.proofs.Tests.{surely_not}
use Rattle.book.specs.Book.{Entry, free_entry, entry_at}
use Rattle.finder.specs.First.{first_from}
use Rattle.finder.proofs.FirstLaws.{first-none}
use Rattle.finder.specs.Bucket.{bucket_of, in_bucket, has_print, apart}

-- ---- laws

pub free-held : free_entry.held ≡ false
unfolding free_entry
free-held = refl

-- only held and fingerprint count
pub bucket_by : (h : ℕ) (e e' : Entry) → e.held ≡ e'.held → e.print ≡ e'.print → in_bucket h e ≡ in_bucket h e'
unfolding in_bucket
bucket_by h e e' k l = rw (k, l)

module _ (h : ℕ) (e : Entry) where
  pub free-out : e.held ≡ false → in_bucket h e ≡ false
  unfolding in_bucket
  free-out k = rw k

  pub other-out : (bucket_of e.print ≡ h → ⊥) → in_bucket h e ≡ false
  unfolding in_bucket
  other-out k = rw (ne_eqb (bucket_of e.print) h k) (and_false e.held)

  pub held_in : e.held ≡ true → bucket_of e.print ≡ h → in_bucket h e ≡ true
  unfolding in_bucket
  held_in k l = true_and e.held (eqb (bucket_of e.print) h) k (eq-eqb (bucket_of e.print) h l)

  pub in_held : in_bucket h e ≡ true → (e.held ≡ true) × (bucket_of e.print ≡ h)
  unfolding in_bucket
  in_held k =
      let w = and_true e.held (eqb (bucket_of e.print) h) k in
      (w.0, eqb-true (bucket_of e.print) h w.1)

module _ (f : List ℕ) (e : Entry) where
  pub held-print : e.held ≡ true → same e.print f ≡ true → has_print f e ≡ true
  unfolding has_print
  held-print k l = true_and e.held (same e.print f) k l

  print-held : has_print f e ≡ true → (e.held ≡ true) × (e.print ≡ f)
  unfolding has_print
  print-held k =
      let w = and_true e.held (same e.print f) k in
      (w.0, same_equal e.print f w.1)

  pub other-print : same e.print f ≡ false → has_print f e ≡ false
  unfolding has_print
  other-print k = rw k (and_false e.held)

-- a held block with fingerprint f is in the bucket of f, so no block outside has it
pub out-print : (f : List ℕ) (e : Entry) → in_bucket (bucket_of f) e ≡ false → has_print f e ≡ false
out-print f e k = surely_not (has_print f e) (λ y. not_both (in_bucket (bucket_of f) e) (inside (print-held f e y)) k)
  where
    inside : (e.held ≡ true) × (e.print ≡ f) → in_bucket (bucket_of f) e ≡ true
    inside w = held_in (bucket_of f) e w.0 (ap bucket_of w.1)

module _ (es : List Entry) (p : ℕ) where
  pub apart-free : (entry_at es p).held ≡ false → apart es p ≡ true
  unfolding apart
  apart-free k = rw k

  -- by the first block above with its fingerprint
  pub apart-held : p < length es → (entry_at es p).held ≡ true → {f : List ℕ} → f ≡ (entry_at es p).print → {r n : ℕ}
      → r ≡ first_from (has_print f) es (p + 1) → n ≡ length es
      → eqb r n ≡ apart es p
  unfolding apart
  apart-held l k e i m = rw (k, m, i, e) (first-none (has_print (entry_at es p).print) es free_entry (p + 1) (omega arith))
