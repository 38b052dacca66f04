-- A block put into the index: first of its bucket, or after the last one below it.
use Prim.Native.Nat.{ℕ, ◌+◌, ◌≤◌, ◌<◌}
use mathlib.Core.Path.{◌≡◌, refl, sym, ap, ◌∙◌}
use mathlib.Core.Bool.{Bool, true, false}
use mathlib.Core.List.{List}
use native.Mathlib.Decide.{dec_lt}
use native.Mathlib.Omega.{arith}
use lib.Dec.{eqb}
use lib.ListN.{length, get_or, set, length-set}
use lib.Seq.{get_or-set_same, get_or-set_other}
use borrow.Author.Tests.{eqb-true, eqb-false}
use Rattle.words.proofs.ChoiceLaws.{not_both}
use Rattle.words.proofs.Tests.{surely_not}
use Rattle.book.specs.Book.{Entry, entry_at}
use Rattle.finder.specs.Bucket.{table_size, bucket_of, in_bucket, first_in}
use Rattle.finder.proofs.BucketLaws.{held_in, in_held}
use Rattle.finder.specs.Indexed.{Indexed}
use Rattle.index.proofs.Without.{without}
use Rattle.index.proofs.Joining.{Joins, home_of, as_long, other, was, not_p, kept, becomes, beyond}

-- q is a block of p's bucket below p
pub record Before (es : List Entry) (p q : ℕ) : Type 0 where
  pub below : q < p
  pub inside : in_bucket (home_of es p) (entry_at es q) ≡ true

module _ {es : List Entry} {p : ℕ} (j : Joins es p) {heads nexts : List ℕ} (x : Indexed (without p es) heads nexts) where
  -- ---- the way up to the last block before p

  module _ (h : ℕ) (s : h < table_size) (e : h ≡ home_of es p) where
    head-is : get_or heads h 0 ≡ first_in (without p es) (home_of es p) 0
    head-is = x.head h s ∙ ap (λ (f : ℕ). first_in (without p es) f 0) e

    pub walk_start : get_or heads h 0 ≤ p → Before es p (get_or heads h 0)
    walk_start i =
        let n = not_p j (home_of es p) 0 (omega arith) in
        record {
          below = omega (arith, head-is);
          inside =
              rw head-is
              (rw (other j (first_in (without p es) (home_of es p) 0) n) at
              ((was j (home_of es p) 0 (omega arith)).passes (omega (arith, as_long j, j.inside, head-is))));
        }

  module _ (q : ℕ) (b : Before es p q) where
    next-is : get_or nexts q 0 ≡ first_in (without p es) (home_of es p) (q + 1)
    next-is =
        let o = other j q (λ c. absurd (omega (arith, b.below))) in
        let w = in_held (home_of es p) (entry_at es q) b.inside in
        rw o at (x.next q (omega arith) (omega (arith, b.below, as_long j, j.inside)) (rw o w.0))
        ∙ ap (λ (f : ℕ). first_in (without p es) f (q + 1)) w.1

    pub walk_up : q < get_or nexts q 0
    walk_up = rw next-is (omega (arith, (was j (home_of es p) (q + 1) (omega (arith, b.below, j.inside))).above))

    pub walk_more : get_or nexts q 0 < p → Before es p (get_or nexts q 0)
    walk_more i =
        let l : q + 1 ≤ length es = omega (arith, b.below, j.inside) in
        record {
          below = i;
          inside =
              rw next-is
              (rw (other j (first_in (without p es) (home_of es p) (q + 1)) (not_p j (home_of es p) (q + 1) l)) at
              ((was j (home_of es p) (q + 1) l).passes (omega (arith, as_long j, j.inside, next-is))));
        }

  -- ---- the tables with p

  -- what follows a block q is the same, where p doesn't come between
  unmoved : (q : ℕ) → q < length es → (q ≡ p → ⊥) → (entry_at es q).held ≡ true
      → (bucket_of (entry_at es q).print ≡ home_of es p → q < p → p < first_in (without p es) (home_of es p) (q + 1) → ⊥)
      → get_or nexts q 0 ≡ first_in es (bucket_of (entry_at es q).print) (q + 1)
  unmoved q u n e out =
      rw (other j q n) at (x.next q (omega arith) (omega (arith, as_long j)) (rw (other j q n) e))
      ∙ kept j (bucket_of (entry_at es q).print) (q + 1) (omega arith)
      (λ i k. surely_not _ (λ y. alike i k (in_held (bucket_of (entry_at es q).print) (entry_at es p) y).1))
    where
      alike : q + 1 ≤ p → p < first_in (without p es) (bucket_of (entry_at es q).print) (q + 1)
          → home_of es p ≡ bucket_of (entry_at es q).print → ⊥
      alike i k c = out (sym c) (omega arith) (rw (sym c) at k)

  pub insert_first : (h : ℕ) → h < table_size → h ≡ home_of es p → p < get_or heads h 0
      → Indexed es (set heads h p) (set nexts p (get_or heads h 0))
  insert_first h s e g = record {
    head = λ f i. head f i (eqb f h) refl;
    next = λ q a u n. next q u n (eqb q p) refl;
    buckets = length-set heads h p ∙ x.buckets;
    blocks = length-set nexts p (get_or heads h 0) ∙ x.blocks;
    small = omega (arith, x.small, as_long j);
  }
    where
      lower : p < first_in (without p es) (home_of es p) 0
      lower = rw (sym (head-is h s e)) g

      head : (f : ℕ) → f < table_size → (t : Bool) → eqb f h ≡ t → get_or (set heads h p) f 0 ≡ first_in es f 0
      head f i true c =
          rw (eqb-true f h c) (get_or-set_same heads h p 0 (omega (arith, x.buckets))
          ∙ rw e (sym (becomes j 0 (omega arith) lower)))
      head f i false c =
          get_or-set_other heads h f p 0 (eqb-false f h c)
          ∙ x.head f i
          ∙ kept j f 0 (omega arith) (λ a k. surely_not _ (λ y. eqb-false f h c (sym (in_held f (entry_at es p) y).1 ∙ sym e)))

      next : (q : ℕ) → q < length es → (entry_at es q).held ≡ true → (t : Bool) → eqb q p ≡ t
          → get_or (set nexts p (get_or heads h 0)) q 0 ≡ first_in es (bucket_of (entry_at es q).print) (q + 1)
      next q u n true c =
          rw (eqb-true q p c)
          (get_or-set_same nexts p (get_or heads h 0) 0 (omega (arith, x.blocks, x.small, as_long j, j.inside))
          ∙ head-is h s e ∙ beyond j 0 (omega arith) lower)
      next q u n false c =
          get_or-set_other nexts p q (get_or heads h 0) 0 (eqb-false q p c)
          ∙ unmoved q u (eqb-false q p c) n
          (λ b v k. not_both (in_bucket (home_of es p) (entry_at es q)) (held_in (home_of es p) (entry_at es q) n b)
          (rw (other j q (eqb-false q p c)) at ((was j (home_of es p) 0 (omega arith)).skips q (omega arith) (omega (arith, lower)))))

  pub insert_after : (q n : ℕ) → Before es p q → n ≡ get_or nexts q 0 → p ≤ n → Indexed es heads (set (set nexts p n) q p)
  insert_after q n b e g = record {
    head = λ f i. x.head f i ∙ kept j f 0 (omega arith) (λ a k. surely_not _ (λ y. not_first f k (in_held f (entry_at es p) y).1));
    next = λ r a u m. next r u m (eqb r q) refl (eqb r p) refl;
    buckets = x.buckets;
    blocks = length-set (set nexts p n) q p ∙ length-set nexts p n ∙ x.blocks;
    small = omega (arith, x.small, as_long j);
  }
    where
      place : q + 1 ≤ p
      place = omega (arith, b.below)

      room : p < length nexts
      room = omega (arith, x.blocks, x.small, as_long j, j.inside)

      between : p < first_in (without p es) (home_of es p) (q + 1)
      between = let c = not_p j (home_of es p) (q + 1) (omega (arith, place, j.inside)) in omega (arith, next-is q b)

      same : entry_at (without p es) q ≡ entry_at es q
      same = other j q (λ c. absurd (omega (arith, place)))

      not_first : (f : ℕ) → p < first_in (without p es) f 0 → home_of es p ≡ f → ⊥
      not_first f k c =
          not_both (in_bucket f (entry_at es q)) (rw (sym c) b.inside)
          (rw same at ((was j f 0 (omega arith)).skips q (omega arith) (omega (arith, place))))

      -- no other block of the bucket lies between q and p, or comes before q and after which p would come
      alone : (r : ℕ) → (r ≡ q → ⊥) → (r ≡ p → ⊥) → (entry_at es r).held ≡ true → bucket_of (entry_at es r).print ≡ home_of es p → r < p
          → p < first_in (without p es) (home_of es p) (r + 1) → ⊥
      alone r c d m f v k = go (dec_lt r q)
        where
          go : Dec (r < q) → ⊥
          go (yes w) =
              not_both (in_bucket (home_of es p) (entry_at es q)) b.inside
              (rw same at ((was j (home_of es p) (r + 1) (omega (arith, j.inside))).skips q (omega arith) (omega (arith, place))))
          go (no w) =
              not_both (in_bucket (home_of es p) (entry_at es r)) (held_in (home_of es p) (entry_at es r) m f)
              (rw (other j r d) at ((was j (home_of es p) (q + 1) (omega (arith, place, j.inside))).skips r (omega arith)
              (omega (arith, between))))

      next : (r : ℕ) → r < length es → (entry_at es r).held ≡ true → (t : Bool) → eqb r q ≡ t → (t' : Bool) → eqb r p ≡ t'
          → get_or (set (set nexts p n) q p) r 0 ≡ first_in es (bucket_of (entry_at es r).print) (r + 1)
      next r u m true c t' c' =
          rw (eqb-true r q c)
          (get_or-set_same (set nexts p n) q p 0 (omega (arith, place, length-set nexts p n, room))
          ∙ sym (ap (λ (f : ℕ). first_in es f (q + 1)) (in_held (home_of es p) (entry_at es q) b.inside).1
          ∙ becomes j (q + 1) place between))
      next r u m false c true c' =
          rw (eqb-true r p c')
          (get_or-set_other (set nexts p n) q p p 0 (λ d. absurd (omega (arith, place)))
          ∙ get_or-set_same nexts p n 0 room
          ∙ e
          ∙ next-is q b
          ∙ beyond j (q + 1) place between)
      next r u m false c false c' =
          get_or-set_other (set nexts p n) q r p 0 (eqb-false r q c)
          ∙ get_or-set_other nexts p r n 0 (eqb-false r p c')
          ∙ unmoved r u (eqb-false r p c') m (alone r (eqb-false r q c) (eqb-false r p c') m)
