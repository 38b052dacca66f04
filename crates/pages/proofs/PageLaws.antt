-- Laws of specs/Pages.antt.
-- The page as the code comes to it: by what refuses the input, and by the counts of a book's entries.
use Prim.Native.Nat.{ℕ, ◌≤◌, ◌<◌}
use mathlib.Core.Path.{◌≡◌, ap, ◌∙◌}
use mathlib.Core.Bool.{Bool, true, false}
use mathlib.Core.Logic.{◌⊎◌, inl, inr}
use mathlib.Core.List.{List}
use native.Mathlib.Omega.{arith}
use lib.Dec.{ltb}
use lib.ListN.{length, get_or, take, length-append}
use borrow.Author.Tests.{lt-ltb, le-ltb, eq-eqb, ne_eqb}
use Rattle.words.specs.Choice.{when◌then◌else◌}
use Rattle.words.specs.Laying.{Stored}
use Rattle.words.proofs.Ranges.{below_or_not}
use Rattle.book.specs.Layout.{book_of, Holds}
use Rattle.book.specs.Layout.{current}
use Rattle.book.specs.Form.{form_number}
use Rattle.book.proofs.FormNumber.{form-cases}
use Rattle.book.proofs.FormBytes.{holds-form}
use Rattle.pages.specs.Tally.{tally_number, line, blocks_word, held_word, free_word, waiting_word, references_word, refused_word}
use Rattle.counter.specs.Sums.{blocks}
use Rattle.pages.specs.Tally.{book_page, tally_page}
use Rattle.words.proofs.SectionsLaid.{stored-front}
use Rattle.pages.proofs.Lines.{line-fits}
use Rattle.counter.specs.Counts.{counts_of, Few}
use Rattle.counter.specs.declared.counts.Counts.{Counts}
use Rattle.pages.specs.Pages.{counts_page, page_room}

module _ (b : List ℕ) where
  pub long-number : 65536 < length b → tally_number b ≡ 1
  unfolding tally_number
  long-number h = rw (lt-ltb 65536 (length b) h)

  pub short-number : length b ≤ 65536 → tally_number b ≡ form_number b
  unfolding tally_number
  short-number h = rw (le-ltb 65536 (length b) h)

  -- no number is above 2
  pub number_small : tally_number b ≤ 2
  unfolding tally_number
  number_small = go (ltb 65536 (length b)) (form-cases current b)
    where
      go : (t : Bool) → ((form_number b ≡ 0) ⊎ ((form_number b ≡ 1) ⊎ (form_number b ≡ 2))) → (when t then 1 else form_number b) ≤ 2
      go true w = omega arith
      go false (inl e) = omega arith
      go false (inr (inl e)) = omega arith
      go false (inr (inr e)) = omega arith

  pub refused_page : {n : ℕ} → n ≡ tally_number b → (n ≡ 0 → ⊥) → line refused_word n ≡ tally_page b
  unfolding tally_page
  refused_page e h = rw (e, ne_eqb (tally_number b) 0 (λ z. h (e ∙ z)))

pub counted_page : (b : List ℕ) {n : ℕ} {t : Counts} → tally_number b ≡ 0 → n ≡ (book_of b).sizes.n
    → t ≡ counts_of (book_of b).entries → counts_page n t ≡ tally_page b
unfolding counts_page counts_of blocks book_page tally_page
counted_page b z e u = rw (e, u, eq-eqb (tally_number b) 0 z)

-- ---- every page has room

pub refused-fits : (n : ℕ) → n ≤ 2 → length (line refused_word n) ≤ page_room
refused-fits n h = omega (arith, line-fits refused_word 0 n (omega arith))

-- 4,096 blocks have numbers of four digits, and references of nine
pub counts-fit : (n : ℕ) (t : Counts) → n ≤ 4096 → Few 4096 t → length (counts_page n t) ≤ page_room
unfolding counts_page
counts-fit n t h f =
    simp length-append
    (omega (
      arith,
      line-fits blocks_word 3 n (omega arith),
      line-fits held_word 3 t.held (omega arith),
      line-fits free_word 3 t.free (omega arith),
      line-fits waiting_word 3 t.waiting (omega arith),
      line-fits references_word 8 t.references (omega arith),
    ))

-- ---- what tally ensures, from what was stored at the front

pub written : {out section out' wanted : List ℕ} {r : ℕ} → length out ≡ page_room → length section ≤ page_room → section ≡ wanted
    → Stored out 0 section out' r
    → (take r out' ≡ wanted) × ((r ≡ length wanted) × (r ≤ page_room))
written {out} {section} n h e s =
    (stored-front {out = out} (omega arith) s ∙ e, (omega (arith, s.place, ap length e), omega (arith, s.place)))

-- bytes that nothing refuses hold a book
pub accepted-holds : (b : List ℕ) → ((i : ℕ) → get_or b i 0 < 256) → tally_number b ≡ 0 → Holds b
accepted-holds b small e = holds-form b small (go (below_or_not 65536 (length b)))
  where
    go : ((65536 < length b) ⊎ (length b ≤ 65536)) → form_number b ≡ 0
    go (inl h) = absurd (omega (arith, long-number b h))
    go (inr h) = omega (arith, short-number b h)
