-- Collect's pass over the block entries, block by block.
use Prim.Native.Nat.{ℕ, ◌+◌, ◌≤◌, ◌<◌}
use mathlib.Core.Path.{◌≡◌, refl, sym, ap, ◌∙◌}
use mathlib.Core.Bool.{Bool, true, false}
use mathlib.Core.List.{List, map}
use native.Mathlib.Numerals.{add-one}
use native.Mathlib.Omega.{arith}
use lib.ListN.{length, take}
use lib.Seq.{take-length, set-get_or}
use Rattle.words.specs.Lists.{bit}
use Rattle.words.specs.Lists.{count_of}
use Rattle.book.specs.Book.{Entry, Book, free_entry, entry_at}
use Rattle.book.specs.Layout.{book_of, Holds, Is}
use Rattle.book.specs.Next.{made_free, with_entries, with_entry}
use Rattle.model.specs.Collect.{is_over, swept_entry}
use Rattle.collector.proofs.Passing.{bit_le, map_to, map_to_at, map_to_more, map_to_all, count-more}

-- the blocks below p are swept, the others as they were
unfoldable pub swept_to : Book → ℕ → ℕ → Book
swept_to x t p = with_entries (map_to (swept_entry t) p x.entries) x

module _ (x : Book) (t : ℕ) where
  swept_none : x ≡ swept_to x t 0
  unfolding swept_to with_entries
  swept_none = refl

  swept_at : (p : ℕ) → entry_at (swept_to x t p).entries p ≡ entry_at x.entries p
  unfolding swept_to with_entries
  swept_at p = map_to_at (swept_entry t) x.entries p free_entry

  swept-n : (p : ℕ) → (swept_to x t p).sizes.n ≡ x.sizes.n
  unfolding swept_to with_entries
  swept-n p = refl

  swept-more : (p : ℕ) → p < length x.entries → with_entry (swept_entry t) p (swept_to x t p) ≡ swept_to x t (p + 1)
  unfolding swept_to with_entries
  swept-more p h = rw add-one (ap (λ (es : List Entry). with_entries es x) (map_to_more (swept_entry t) x.entries p free_entry h))

  swept-end : swept_to x t (length x.entries) ≡ with_entries (map (swept_entry t) x.entries) x
  unfolding swept_to
  swept-end = ap (λ (es : List Entry). with_entries es x) (map_to_all (swept_entry t) x.entries)

-- ---- one block

module _ (b : List ℕ) (t p : ℕ) where
  pub free-kept : Holds b → is_over t (entry_at (book_of b).entries p) ≡ false → Is b (with_entry (swept_entry t) p (book_of b))
  unfolding swept_entry with_entries
  free-kept h e = record { holds = h; book = rw (e, set-get_or) }

  pub free-freed : {b' : List ℕ} → is_over t (entry_at (book_of b).entries p) ≡ true
      → Is b' (with_entry made_free p (book_of b)) → Is b' (with_entry (swept_entry t) p (book_of b))
  unfolding swept_entry
  free-freed e i = rw e i

-- ---- the pass

-- the pass from book b₀ on day t has come to block p, and has freed so many
pub record Sweeping (b₀ : List ℕ) (t : ℕ) (b : List ℕ) (freed p : ℕ) : Type 0 where
  pub few : freed ≤ p
  pub book : Is b (swept_to (book_of b₀) t p)
  pub count : freed ≡ count_of (is_over t) (take p (book_of b₀).entries)

pub sweeping_inside : {b₀ b : List ℕ} {t freed p : ℕ} → Sweeping b₀ t b freed p → p < (book_of b₀).sizes.n → p < (book_of b).sizes.n
sweeping_inside {b₀ = b₀} {t = t} {p = p} s l = rw (s.book.book, swept-n (book_of b₀) t p) l

module _ {b₀ : List ℕ} (t : ℕ) (h : Holds b₀) where
  pub sweeping_start : Sweeping b₀ t b₀ 0 0
  sweeping_start =
      record {
        few = omega arith;
        book = record
            { holds = h; book = swept_none (book_of b₀) t };
        count = refl;
      }

  module _ {b : List ℕ} {freed p : ℕ} (s : Sweeping b₀ t b freed p) where
    pub sweeping_more : {b' : List ℕ} {freed' : ℕ} {r : Bool} → p < (book_of b₀).sizes.n
        → r ≡ is_over t (entry_at (book_of b).entries p)
        → Is b' (with_entry (swept_entry t) p (book_of b))
        → freed' ≡ freed + bit r
        → Sweeping b₀ t b' freed' (p + 1)
    sweeping_more {r = r} l o i f =
        let k : p < length (book_of b₀).entries = omega (arith, h.sized.entries) in
        let same : r ≡ is_over t (entry_at (book_of b₀).entries p) = o ∙ rw (s.book.book, swept_at (book_of b₀) t p) in
        record {
          few = omega (arith, s.few, bit_le r);
          book = rw (s.book.book, swept-more (book_of b₀) t p k) at i;
          count = f ∙ rw (same, s.count, add-one p) (sym (count-more (is_over t) (book_of b₀).entries p free_entry k));
        }

    pub sweeping_end : p ≡ (book_of b₀).sizes.n
        → (freed ≡ count_of (is_over t) (book_of b₀).entries) × Is b (with_entries (map (swept_entry t) (book_of b₀).entries) (book_of b₀))
    sweeping_end e =
        let q : p ≡ length (book_of b₀).entries = e ∙ sym h.sized.entries in
        (rw (q, take-length) at s.count, rw (q, swept-end (book_of b₀) t) at s.book)
