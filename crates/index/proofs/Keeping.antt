-- The index depends on what each entry says of held and, where it is held, of its fingerprint, and on nothing else.
use Prim.Native.Nat.{ℕ, ◌+◌, ◌≤◌, ◌<◌}
use mathlib.Core.Path.{◌≡◌, refl, sym, ap, ◌∙◌}
use mathlib.Core.Bool.{Bool, true, false}
use mathlib.Core.List.{List}
use native.Mathlib.Omega.{arith}
use lib.ListN.{length, get_or, set, length-set}
use lib.Seq.{get_or-set_other, set-set}
use Rattle.words.proofs.ChoiceLaws.{not_both}
use Rattle.words.proofs.SetLaws.{get_or-set-kept}
use Rattle.book.specs.Book.{Entry, free_entry, entry_at}
use Rattle.finder.proofs.FirstLaws.{first-is, first-at}
use Rattle.finder.specs.Bucket.{bucket_of, in_bucket, first_in}
use Rattle.finder.proofs.BucketLaws.{free-held, free-out, bucket_by}
use Rattle.finder.specs.Indexed.{Indexed}
use Rattle.index.proofs.Without.{without}

-- the same blocks are held, with the same fingerprints
pub record Alike (es es' : List Entry) : Type 0 where
  pub long : length es ≡ length es'
  pub held : (q : ℕ) → (entry_at es q).held ≡ (entry_at es' q).held
  pub print : (q : ℕ) → (entry_at es q).held ≡ true → (entry_at es q).print ≡ (entry_at es' q).print

module _ {es es' : List Entry} (a : Alike es es') where
  bucket_alike : (h q : ℕ) → in_bucket h (entry_at es q) ≡ in_bucket h (entry_at es' q)
  bucket_alike h q = go (entry_at es q).held refl
    where
      go : (t : Bool) → (entry_at es q).held ≡ t → in_bucket h (entry_at es q) ≡ in_bucket h (entry_at es' q)
      go true e = bucket_by h (entry_at es q) (entry_at es' q) (a.held q) (a.print q e)
      go false e = free-out h (entry_at es q) e ∙ sym (free-out h (entry_at es' q) (sym (a.held q) ∙ e))

  first_alike : (h b : ℕ) → b ≤ length es → first_in es h b ≡ first_in es' h b
  first_alike h b i =
      let m = first-is (in_bucket h) es free_entry b i in
      sym (first-at (in_bucket h) es' free_entry (record {
        above = m.above;
        within = omega (arith, m.within, a.long);
        skips = λ q u v. sym (bucket_alike h q) ∙ m.skips q u v;
        passes = λ u. sym (bucket_alike h (first_in es h b)) ∙ m.passes (omega (arith, a.long));
      }))

  pub indexed_alike : {heads nexts : List ℕ} → Indexed es heads nexts → Indexed es' heads nexts
  indexed_alike {heads} {nexts} x = record {
    head = λ h i. x.head h i ∙ first_alike h 0 (omega arith);
    next = λ q i u n. next q u (a.held q ∙ n) n;
    buckets = x.buckets;
    blocks = x.blocks;
    small = omega (arith, x.small, a.long);
  }
    where
      next : (q : ℕ) → q < length es' → (entry_at es q).held ≡ true → (entry_at es' q).held ≡ true
          → get_or nexts q 0 ≡ first_in es' (bucket_of (entry_at es' q).print) (q + 1)
      next q u k n =
          x.next q (omega arith) (omega (arith, a.long)) k
          ∙ rw (a.print q k) (first_alike (bucket_of (entry_at es' q).print) (q + 1) (omega (arith, a.long)))

-- one entry changed in its count or expiry
pub alike_set : (es : List Entry) (p : ℕ) (e : Entry) → e.held ≡ (entry_at es p).held → e.print ≡ (entry_at es p).print
    → Alike es (set es p e)
alike_set es p e h f = record {
  long = sym (length-set es p e);
  held = λ q. sym (get_or-set-kept (λ (e : Entry). e.held) es p e free_entry h q);
  print = λ q k. sym (get_or-set-kept (λ (e : Entry). e.print) es p e free_entry f q);
}

-- a free block that has become held, taken out again
pub alike-without : (es : List Entry) (p : ℕ) (e : Entry) → (entry_at es p).held ≡ false → Alike es (without p (set es p e))
alike-without es p e k = rw (set-set es p e free_entry) (record {
  long = sym (length-set es p free_entry);
  held = λ q. sym (get_or-set-kept (λ (e : Entry). e.held) es p free_entry free_entry (free-held ∙ sym k) q);
  print =
      λ q n. sym (ap (λ (e : Entry). e.print)
      (get_or-set_other es p q free_entry free_entry (λ z. not_both (entry_at es p).held (rw z at n) k)));
})
