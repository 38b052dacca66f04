-- How the buckets change when one more block is held: it comes in at its place, and all else stays.
use Prim.Native.Nat.{ℕ, ◌+◌, ◌≤◌, ◌<◌}
use mathlib.Core.Path.{◌≡◌, refl, sym, ap, ◌∙◌}
use mathlib.Core.Bool.{Bool, true, false}
use mathlib.Core.List.{List}
use native.Mathlib.Omega.{arith}
use lib.Dec.{eqb}
use lib.ListN.{length, length-set}
use lib.Seq.{get_or-set_same, get_or-set_other}
use borrow.Author.Tests.{eqb-true, eqb-false}
use Rattle.words.proofs.ChoiceLaws.{not_both}
use Rattle.book.specs.Book.{Entry, free_entry, entry_at}
use Rattle.finder.proofs.FirstLaws.{First, first-is, first-at}
use Rattle.finder.specs.Bucket.{bucket_of, in_bucket, first_in}
use Rattle.finder.proofs.BucketLaws.{free-held, free-out, held_in}
use Rattle.index.proofs.Without.{without}

-- p is held in es; it joins those that are held in `without p es`
pub record Joins (es : List Entry) (p : ℕ) : Type 0 where
  pub inside : p < length es
  pub held : (entry_at es p).held ≡ true

-- the bucket of block p
abbrev pub home_of : List Entry → ℕ → ℕ
home_of es p = bucket_of (entry_at es p).print

module _ {es : List Entry} {p : ℕ} (j : Joins es p) where
  pub as_long : length (without p es) ≡ length es
  as_long = length-set es p free_entry

  -- every other block is as it was, and p was in no bucket
  pub other : (q : ℕ) → (q ≡ p → ⊥) → entry_at (without p es) q ≡ entry_at es q
  other q n = get_or-set_other es p q free_entry free_entry n

  nowhere : (h : ℕ) → in_bucket h (entry_at (without p es) p) ≡ false
  nowhere h =
      free-out h (entry_at (without p es) p)
      (ap (λ (e : Entry). e.held) (get_or-set_same es p free_entry free_entry j.inside) ∙ free-held)

  pub was : (h a : ℕ) → a ≤ length es → First (in_bucket h) (without p es) free_entry a (first_in (without p es) h a)
  was h a i = first-is (in_bucket h) (without p es) free_entry a (omega (arith, as_long))

  pub not_p : (h a : ℕ) → a ≤ length es → first_in (without p es) h a ≡ p → ⊥
  not_p h a i e =
      not_both (in_bucket h (entry_at (without p es) p)) (rw e at ((was h a i).passes (omega (arith, as_long, j.inside)))) (nowhere h)

  -- p changes nothing where it isn't in the bucket, or lies outside
  pub kept : (h a : ℕ) → a ≤ length es → (a ≤ p → p < first_in (without p es) h a → in_bucket h (entry_at es p) ≡ false)
      → first_in (without p es) h a ≡ first_in es h a
  kept h a i out =
      sym (first-at (in_bucket h) es free_entry (record {
        above = m.above;
        within = omega (arith, m.within, as_long);
        skips = λ q u v. skip q u v (eqb q p) refl;
        passes = λ u. rw (other (first_in (without p es) h a) (not_p h a i)) at (m.passes (omega (arith, as_long)));
      }))
    where
      m : First (in_bucket h) (without p es) free_entry a (first_in (without p es) h a)
      m = was h a i

      skip : (q : ℕ) → a ≤ q → q < first_in (without p es) h a → (t : Bool) → eqb q p ≡ t → in_bucket h (entry_at es q) ≡ false
      skip q u v true e = let z = eqb-true q p e in rw z (out (omega arith) (omega arith))
      skip q u v false e = rw (other q (eqb-false q p e)) at (m.skips q u v)

  module _ (a : ℕ) (i : a ≤ p) (k : p < first_in (without p es) (home_of es p) a) where
    m : First (in_bucket (home_of es p)) (without p es) free_entry a (first_in (without p es) (home_of es p) a)
    m = was (home_of es p) a (omega (arith, j.inside))

    -- its own bucket goes on at p, and after p where it went on before
    pub becomes : first_in es (home_of es p) a ≡ p
    becomes =
        first-at (in_bucket (home_of es p)) es free_entry (record {
          above = i;
          within = omega (arith, j.inside);
          skips = λ q u v. rw (other q (λ e. absurd (omega arith))) at (m.skips q u (omega arith));
          passes = λ u. held_in (home_of es p) (entry_at es p) j.held refl;
        })

    pub beyond : first_in (without p es) (home_of es p) a ≡ first_in es (home_of es p) (p + 1)
    beyond =
        sym (first-at (in_bucket (home_of es p)) es free_entry {a = p + 1} (record {
          above = omega arith;
          within = omega (arith, m.within, as_long);
          skips = λ q u v. rw (other q (λ e. absurd (omega arith))) at (m.skips q (omega arith) v);
          passes =
              λ u. rw (other (first_in (without p es) (home_of es p) a) (λ e. absurd (omega arith))) at
              (m.passes (omega (arith, as_long)));
        }))
