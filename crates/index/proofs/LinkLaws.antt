-- The index, built from the last block down.
use Prim.Native.Nat.{ℕ, ◌+◌, ◌≤◌, ◌<◌}
use mathlib.Core.Path.{◌≡◌, refl, sym, ap, ◌∙◌}
use mathlib.Core.Bool.{Bool, true, false}
use mathlib.Core.List.{List}
use native.Mathlib.Decide.{dec_lt}
use native.Mathlib.Omega.{arith}
use lib.Dec.{eqb}
use lib.ListN.{length, get_or, set, replicate, length-set, length-replicate, get_or-replicate}
use lib.Seq.{get_or-set_same, get_or-set_other}
use borrow.Author.Tests.{eqb-true, eqb-false}
use Rattle.words.proofs.ChoiceLaws.{not_both}
use Rattle.book.specs.Book.{Entry, free_entry, entry_at}
use Rattle.finder.proofs.FirstLaws.{first_past, first-here, first-end}
use Rattle.finder.specs.Bucket.{table_size, bucket_of, in_bucket, first_in}
use Rattle.finder.proofs.BucketLaws.{free-out, other-out, held_in}
use Rattle.finder.specs.Indexed.{IndexedFrom}

-- no block yet
pub linked-none : (es : List Entry) (n : ℕ) {m : ℕ} → length es ≡ m → n ≡ m → m ≤ table_size
    → IndexedFrom m es (replicate table_size n) (replicate table_size n)
linked-none es n e k s = record {
  head = λ h l. get_or-replicate table_size h n 0 l ∙ k ∙ sym (rw e at (first-end (in_bucket h) es free_entry));
  next = λ q l i m. absurd (omega arith);
  buckets = length-replicate table_size n;
  blocks = length-replicate table_size n;
  small = omega arith;
}

module _ (es : List Entry) (p : ℕ) (l : p < length es) where
  module _ (heads nexts : List ℕ) (x : IndexedFrom (p + 1) es heads nexts) where
    -- a free block is in no bucket
    pub linked-free : (entry_at es p).held ≡ false → IndexedFrom p es heads nexts
    linked-free k = record {
      head = λ h m. x.head h m ∙ sym (first_past (in_bucket h) es free_entry p l (free-out h (entry_at es p) k));
      next = λ q a m n. go q a m n (dec_lt p q);
      buckets = x.buckets;
      blocks = x.blocks;
      small = x.small;
    }
      where
        go : (q : ℕ) → p ≤ q → q < length es → (entry_at es q).held ≡ true → Dec (p < q)
            → get_or nexts q 0 ≡ first_in es (bucket_of (entry_at es q).print) (q + 1)
        go q a m n (yes b) = x.next q (omega arith) m n
        go q a m n (no b) = let z : q ≡ p = omega arith in absurd (not_both (entry_at es p).held (rw z at n) k)

    -- a held one is the first of its bucket, and what was the first comes next
    pub linked-held : (h : ℕ) → h < table_size → (entry_at es p).held ≡ true → h ≡ bucket_of (entry_at es p).print
        → IndexedFrom p es (set heads h p) (set nexts p (get_or heads h 0))
    linked-held h s k e = record {
      head = λ g m. first g m (eqb g h) refl;
      next = λ q a m n. after q a m n (dec_lt p q);
      buckets = length-set heads h p ∙ x.buckets;
      blocks = length-set nexts p (get_or heads h 0) ∙ x.blocks;
      small = x.small;
    }
      where
        first : (g : ℕ) → g < table_size → (t : Bool) → eqb g h ≡ t → get_or (set heads h p) g 0 ≡ first_in es g p
        first g m true i =
            let z = eqb-true g h i in
            rw z (get_or-set_same heads h p 0 (omega (arith, x.buckets))
            ∙ sym (first-here (in_bucket h) es free_entry p l (held_in h (entry_at es p) k (sym e))))
        first g m false i =
            let z = eqb-false g h i in
            get_or-set_other heads h g p 0 z ∙ x.head g m
            ∙ sym (first_past (in_bucket g) es free_entry p l (other-out g (entry_at es p) (λ c. z (sym c ∙ sym e))))

        after : (q : ℕ) → p ≤ q → q < length es → (entry_at es q).held ≡ true → Dec (p < q)
            → get_or (set nexts p (get_or heads h 0)) q 0 ≡ first_in es (bucket_of (entry_at es q).print) (q + 1)
        after q a m n (yes b) = get_or-set_other nexts p q (get_or heads h 0) 0 (λ c. absurd (omega arith)) ∙ x.next q (omega arith) m n
        after q a m n (no b) =
            let z : q ≡ p = omega arith in
            rw z (get_or-set_same nexts p (get_or heads h 0) 0 (omega (arith, x.blocks, x.small)) ∙ x.head h s
            ∙ ap (λ (g : ℕ). first_in es g (p + 1)) e)
