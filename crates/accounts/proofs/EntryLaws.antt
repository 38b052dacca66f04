-- Laws of specs/Entries.antt.
-- The entries gone through once: each count and each expiry against what was gathered for its block.
use Prim.Native.Nat.{ℕ, ◌+◌, ◌<◌, max}
use mathlib.Core.Path.{◌≡◌, refl, sym, ap, ◌∙◌}
use mathlib.Core.Bool.{Bool, true, ◌&&◌}
use mathlib.Core.List.{List}
use native.Mathlib.Omega.{arith}
use lib.Dec.{eqb}
use lib.ListN.{replicate, get_or-replicate}
use Rattle.words.proofs.ChoiceLaws.{and-swap}
use Rattle.words.proofs.Each.{all-each}
use Rattle.words.specs.Lists.{all, joined, up_from}
use Rattle.book.specs.Book.{Entry}
use Rattle.book.specs.Layout.{book_of}
use Rattle.book.specs.FormFacts.{FormFacts}
use Rattle.model.specs.Journal.{journal}
use Rattle.model.specs.Audit.{until_in, count_sound, expiry_sound}
use Rattle.due.specs.Expiries.{Raised}
use Rattle.due.specs.Pool.{pool_blocks, number_at}
use Rattle.accounts.specs.Counts.{Counted, count_of_block}
use Rattle.accounts.proofs.CountLaws.{counts-sound}
use Rattle.accounts.specs.Matching.{matching}
use Rattle.accounts.proofs.MatchingLaws.{matching-none, matching-grow, matching-same}
use Rattle.accounts.specs.Entries.{expiry_of_block, entry_matches, entries_match}

module _ (es : List Entry) (counts expiries : List ℕ) where
  pub entries_none : true ≡ entries_match es counts expiries 0
  unfolding entries_match
  entries_none = rw (← (matching-none (count_of_block es) (number_at counts))) (matching-none (expiry_of_block es) (number_at expiries))

  pub entries-grow : (n : ℕ) {good good' : Bool} → good ≡ entries_match es counts expiries n
      → good' ≡ entry_matches es counts expiries n → (good && good') ≡ entries_match es counts expiries (n + 1)
  unfolding entries_match entry_matches
  entries-grow n e h =
      rw (
        e,
        h,
        ← (matching-grow (count_of_block es) (number_at counts) n refl refl refl),
        ←
            (matching-grow (expiry_of_block es) (number_at expiries) n refl refl refl),
      )
      (and-swap (matching (count_of_block es) (number_at counts) n) (matching (expiry_of_block es) (number_at expiries) n)
      (eqb (count_of_block es n) (number_at counts n)) (eqb (expiry_of_block es n) (number_at expiries n)))

-- ---- "each expiry is the largest slot day plus retention over records with that before, 0 if none"

pub expiries-sound : {b : List ℕ} → FormFacts b → {a : List ℕ} {t : Bool}
    → Raised (replicate pool_blocks 0) (λ p. until_in (book_of b) p (journal (book_of b))) a
    → t ≡ matching (expiry_of_block (book_of b).entries) (number_at a) (book_of b).sizes.n
    → t ≡ all (expiry_sound (book_of b)) (up_from 0 (book_of b).sizes.n)
unfolding expiry_sound
expiries-sound {b} f {a} c e =
    let x = book_of b in
    e ∙ matching-same (expiry_of_block x.entries) (number_at a) (λ p. until_in x p (journal x)) x.sizes.n
    (λ p h. let k : p < pool_blocks = omega (arith, f.holds.n) in
    c.at p k ∙ ap (λ (z : ℕ). max z (until_in x p (journal x))) (get_or-replicate pool_blocks p 0 0 k) ∙ omega arith)
    ∙ sym (all-each (expiry_sound x) x.sizes.n)

-- counts from the maps and expiries from the journal: two tests of audit
pub entries-sound : {b : List ℕ} → FormFacts b → {counts expiries : List ℕ} {t : Bool}
    → Counted (replicate pool_blocks 0) (joined (book_of b).maps) counts
    → Raised (replicate pool_blocks 0) (λ p. until_in (book_of b) p (journal (book_of b))) expiries
    → t ≡ entries_match (book_of b).entries counts expiries (book_of b).sizes.n
    → t ≡ (all (count_sound (book_of b)) (up_from 0 (book_of b).sizes.n) && all (expiry_sound (book_of b)) (up_from 0 (book_of b).sizes.n))
unfolding entries_match
entries-sound f c r e = e ∙ rw (counts-sound f c refl, expiries-sound f r refl)
