-- Laws of specs/Finding.antt.
-- A walk up a bucket finds what a search of all blocks from a place on does.
use Prim.Native.Nat.{ℕ, ◌+◌, ◌≤◌, ◌<◌}
use mathlib.Core.Path.{◌≡◌, refl, sym, ap, ◌∙◌}
use mathlib.Core.Bool.{true, false, ◌&&◌}
use mathlib.Core.List.{List}
use mathlib.Core.Option.{Option, none, some}
use native.Mathlib.Omega.{arith}
use lib.ListN.{length, get_or}
use Rattle.words.proofs.FoundPlaces.{place_found}
use Rattle.words.specs.Lists.{place_from, same}
use Rattle.book.specs.Book.{Entry, free_entry, entry_at}
use Rattle.model.specs.Backup.{find_held}
use Rattle.finder.proofs.FirstLaws.{First, first-is, first-skip, first_past, first-here, first-end}
use Rattle.finder.specs.First.{place_or, first_from}
use Rattle.finder.specs.Bucket.{table_size, bucket_of, in_bucket, has_print, first_in}
use Rattle.finder.proofs.BucketLaws.{in_held, held-print, other-print, out-print}
use Rattle.finder.specs.Indexed.{IndexedFrom}
use Rattle.finder.specs.Finding.{Chain}

module _ (es : List Entry) where
  -- ---- up a bucket

  module _ (h : ℕ) (nexts : List ℕ) (q : ℕ) (s : Chain es h nexts q) (l : q < length es) where
    next-is : get_or nexts q 0 ≡ first_in es h (q + 1)
    next-is = s.next q (omega arith) l (s.inside l)

    after : First (in_bucket h) es free_entry (q + 1) (first_in es h (q + 1))
    after = first-is (in_bucket h) es free_entry (q + 1) (omega arith)

    pub chain-up : q < get_or nexts q 0
    chain-up = rw next-is (omega (arith, after.above))

    pub chain_more : Chain es h nexts (get_or nexts q 0)
    chain_more =
        rw next-is (record {
          within = after.within;
          inside = after.passes;
          next = λ r b k. s.next r
              (omega (arith, after.above)) k;
        })

  -- ---- the first block with fingerprint f on the way

  module _ (f : List ℕ) where
    -- outside the bucket of f none has it
    skip-out : (a : ℕ) → a ≤ length es → first_from (has_print f) es a ≡ first_from (has_print f) es (first_in es (bucket_of f) a)
    skip-out a i =
        let m = first-is (in_bucket (bucket_of f)) es free_entry a i in
        first-skip (has_print f) es free_entry a (first_in es (bucket_of f) a) m.above m.within
        (λ q b k. out-print f (entry_at es q) (m.skips q b k))

    -- from the head of its bucket
    module _ (a : ℕ) {heads nexts : List ℕ} (x : IndexedFrom a es heads nexts) (i : a ≤ length es) (h : ℕ)
        (e : h ≡ bucket_of f) (l : h < table_size) where
      head-is : get_or heads h 0 ≡ first_in es (bucket_of f) a
      head-is = x.head h l ∙ ap (λ (g : ℕ). first_in es g a) e

      pub chain-start : Chain es (bucket_of f) nexts (get_or heads h 0)
      chain-start =
          let m = first-is (in_bucket (bucket_of f)) es free_entry a i in
          rw head-is (record {
            within = m.within;
            inside = m.passes;
            next = λ r b k e. next r (omega (arith, m.above)) k (in_held (bucket_of f) (entry_at es r) e);
          })
        where
          next : (r : ℕ) → a ≤ r → r < length es → ((entry_at es r).held ≡ true) × (bucket_of (entry_at es r).print ≡ bucket_of f)
              → get_or nexts r 0 ≡ first_in es (bucket_of f) (r + 1)
          next r b k w = x.next r b k w.0 ∙ ap (λ (g : ℕ). first_in es g (r + 1)) w.1

      pub search_start : first_from (has_print f) es (get_or heads h 0) ≡ first_from (has_print f) es a
      search_start = rw head-is (sym (skip-out a i))

    module _ (nexts : List ℕ) (q : ℕ) (s : Chain es (bucket_of f) nexts q) where
      pub search_more : q < length es → same (entry_at es q).print f ≡ false
          → first_from (has_print f) es q ≡ first_from (has_print f) es (get_or nexts q 0)
      search_more l e =
          rw (next-is (bucket_of f) nexts q s l)
          (first_past (has_print f) es free_entry q l (other-print f (entry_at es q) e) ∙ skip-out (q + 1) (omega arith))

      pub search_stop : q < length es → same (entry_at es q).print f ≡ true → first_from (has_print f) es q ≡ q
      search_stop l e =
          first-here (has_print f) es free_entry q l (held-print f (entry_at es q) (in_held (bucket_of f) (entry_at es q) (s.inside l)).0 e)

      pub search_end : length es ≤ q → first_from (has_print f) es q ≡ q
      search_end l = let e : q ≡ length es = omega (arith, s.within) in rw e (first-end (has_print f) es free_entry)

    -- ---- from block 0 on, it is what step 1 of a backup finds

    pub found_at : (q : ℕ) → q ≡ first_from (has_print f) es 0 → q < length es → find_held es f ≡ some q
    unfolding find_held has_print first_from
    found_at q e l = go (place_from 0 (λ e. e.held && same e.print f) es) e
      where
        go : (o : Option ℕ) → q ≡ place_or (length es) o → o ≡ some q
        go none e = absurd (omega arith)
        go (some p) e = ap some (sym e)

    pub found_nowhere : (q : ℕ) → q ≡ first_from (has_print f) es 0 → length es ≤ q → find_held es f ≡ none
    unfolding find_held has_print first_from
    found_nowhere q e l = go (place_from 0 (λ e. e.held && same e.print f) es) refl e
      where
        go : (o : Option ℕ) → place_from 0 (λ (e : Entry). e.held && same e.print f) es ≡ o → q ≡ place_or (length es) o → o ≡ none
        go none k e = refl
        go (some p) k e =
            let r =
            place_found (λ (e : Entry). e.held && same e.print f) free_entry 0 es p k
            in absurd (omega (arith, r.place, r.inside))
