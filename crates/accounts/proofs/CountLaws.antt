-- Laws of specs/Counts.antt.
-- A count for each block of the pool, gathered cell by cell.
use Prim.Native.Nat.{ℕ, ◌+◌, ◌≤◌, ◌<◌}
use mathlib.Core.Path.{◌≡◌, refl, sym, ap, ◌∙◌}
use mathlib.Core.Bool.{Bool, true, false}
use mathlib.Core.List.{List, [], ◌∷◌, ◌++◌, append-nil}
use native.Mathlib.Numerals.{add-one}
use native.Mathlib.Omega.{arith}
use lib.Dec.{eqb}
use lib.ListN.{length, get_or, take, set, replicate, length-set, get_or-replicate}
use lib.Seq.{take-suc, take_all}
use borrow.Author.Tests.{eqb-true, ne_eqb}
use Rattle.words.proofs.Appends.{count_of_append, joined_append}
use Rattle.words.specs.Blocks.{unmapped}
use Rattle.words.specs.Choice.{when◌then◌else◌}
use Rattle.words.proofs.Counting.{count_most}
use Rattle.words.proofs.Each.{all-each}
use Rattle.words.specs.Lists.{all, count_of, joined, up_from}
use Rattle.words.proofs.SetLaws.{get_d_set}
use Rattle.book.specs.Book.{volumes}
use Rattle.book.specs.Layout.{book_of}
use Rattle.book.specs.FormFacts.{FormFacts}
use Rattle.model.specs.Audit.{count_sound}
use Rattle.due.specs.Pool.{pool_blocks, number_at}
use Rattle.accounts.specs.Matching.{matching}
use Rattle.accounts.proofs.MatchingLaws.{matching-same}
use Rattle.accounts.specs.Counts.{Counted, count_of_block}

pub counted_none : (a : List ℕ) → Counted a [] a
counted_none a = record { long = refl; at = λ p h. omega arith }

pub counted_append : {a a' a'' xs ys : List ℕ} → Counted a xs a' → Counted a' ys a'' → Counted a (xs ++ ys) a''
counted_append {a} {a'} {a''} {xs} {ys} f g =
    record { long = g.long ∙ f.long; at = λ p h. omega (arith, f.at p h, g.at p h, count_of_append (eqb p) xs ys) }

-- one block number: a store, or none where it is past the counters
pub counted-one : (a : List ℕ) (c : ℕ) → c < length a → Counted a (c ∷ []) (set a c (get_or a c 0 + 1))
counted-one a c h =
    record {
      long = length-set a c (get_or a c 0 + 1);
      at = λ p _. rw (get_d_set a c p (get_or a c 0 + 1) 0 h)
          (go p (eqb p c) refl);
    }
  where
    go : (p : ℕ) (t : Bool) → eqb p c ≡ t → (when t then get_or a c 0 + 1 else get_or a p 0) ≡ get_or a p 0 + (when t then 1 else 0)
    go p true e = rw (eqb-true p c e)
    go p false e = omega arith

pub counted-past : (a : List ℕ) (c : ℕ) → pool_blocks ≤ c → Counted a (c ∷ []) a
counted-past a c h = record { long = refl; at = λ p k. let e = ne_eqb p c (λ q. absurd (omega arith)) in rw e (omega arith) }

-- ---- a row, and all rows

pub counted-cell : {a a' a'' : List ℕ} (m : List ℕ) (l c : ℕ) → l < length m → c ≡ get_or m l unmapped
    → Counted a (take l m) a' → Counted a' (c ∷ []) a''
    → Counted a (take (l + 1) m) a''
counted-cell m l c h e f g =
    rw (add-one l, take-suc m l unmapped h, ← e) (counted_append f g)

pub counted-row : {a a' a'' : List ℕ} (ms : List (List ℕ)) (v : ℕ) → v < length ms → Counted a (joined (take v ms)) a'
    → Counted a' (get_or ms v []) a''
    → Counted a (joined (take (v + 1) ms)) a''
counted-row ms v h f g =
    rw (add-one v, take-suc ms v [] h, joined_append (take v ms) (get_or ms v [] ∷ []), append-nil (get_or ms v [])) (counted_append f g)

-- .. all rows of a book in form
pub counted-rows : {b : List ℕ} → FormFacts b → {a a' : List ℕ} → Counted a (joined (take volumes (book_of b).maps)) a'
    → Counted a (joined (book_of b).maps) a'
counted-rows {b} f c =
    let whole : take volumes (book_of b).maps ≡ (book_of b).maps = take_all volumes (book_of b).maps (omega (arith, f.holds.sized.maps)) in
    rw whole at c

-- no counter has more than the cells counted
pub counted-le : {a cs a' : List ℕ} (k p : ℕ) → p < pool_blocks → get_or a p 0 ≤ k → Counted a cs a' → get_or a' p 0 ≤ k + length cs
counted-le {a} {cs} k p h b f = omega (arith, f.at p h, count_most (eqb p) cs)

-- ---- "each count is the number of map cells naming the block"

pub counts-sound : {b : List ℕ} → FormFacts b → {a : List ℕ} {t : Bool} → Counted (replicate pool_blocks 0) (joined (book_of b).maps) a
    → t ≡ matching (count_of_block (book_of b).entries) (number_at a) (book_of b).sizes.n
    → t ≡ all (count_sound (book_of b)) (up_from 0 (book_of b).sizes.n)
unfolding count_sound
counts-sound {b} f {a} c e =
    let x = book_of b in
    e ∙ matching-same (count_of_block x.entries) (number_at a) (λ p. count_of (eqb p) (joined x.maps)) x.sizes.n
    (λ p h. let k : p < pool_blocks = omega (arith, f.holds.n) in
    c.at p k ∙ ap (λ (z : ℕ). z + count_of (eqb p) (joined x.maps)) (get_or-replicate pool_blocks p 0 0 k) ∙ omega arith)
    ∙ sym (all-each (count_sound x) x.sizes.n)
