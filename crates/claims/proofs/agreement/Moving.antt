-- What steps 3 and 4 do to each entry.
use Prim.Native.Nat.{ℕ, ◌+◌, ◌-◌, ◌<◌, max}
use mathlib.Core.Path.{◌≡◌, refl, ap, ◌∙◌}
use mathlib.Core.Logic.{◌≢◌}
use mathlib.Core.Bool.{Bool, true, false}
use mathlib.Core.List.{List, map}
use native.Mathlib.Omega.{arith}
use lib.Dec.{eqb}
use lib.ListN.{length, set, length-set}
use borrow.Author.Tests.{eqb-true, eqb-false, ne_eqb}
use Rattle.words.specs.Blocks.{unmapped}
use Rattle.words.specs.Choice.{when◌then◌else◌}
use Rattle.words.specs.Lists.{bit}
use Rattle.words.specs.Lists.{those}
use Rattle.words.proofs.SetLaws.{get_d_set, get_or-set-kept}
use Rattle.book.specs.Book.{Entry, entry_at, free_entry}
use Rattle.book.specs.Next.{count_as, expiry_as}
use Rattle.model.specs.Backup.{lowered, lower, raised}
use Rattle.model.specs.Sides.{blocks_in}
use Rattle.claims.proofs.agreement.BlockLaws.{blocks-kept}
use Rattle.claims.proofs.agreement.Prints.{prints-kept}

-- ---- step 3

module _ (until before : ℕ) (es : List Entry) where
  pub length-lower : length (lower until before es) ≡ length es
  unfolding lower
  length-lower = go (eqb before unmapped)
    where
      go : (t : Bool) → length (when t then es else set es before (lowered until (entry_at es before))) ≡ length es
      go true = refl
      go false = length-set es before (lowered until (entry_at es before))

  -- what lowering an entry keeps
  pub lower-kept : {B : Type 0} (f : Entry → B) → ((e : Entry) → f (lowered until e) ≡ f e) → (q : ℕ)
      → f (entry_at (lower until before es) q) ≡ f (entry_at es q)
  unfolding lower
  lower-kept f k q = go (eqb before unmapped)
    where
      go : (t : Bool) → f (entry_at (when t then es else set es before (lowered until (entry_at es before))) q) ≡ f (entry_at es q)
      go true = refl
      go false = get_or-set-kept f es before (lowered until (entry_at es before)) free_entry (k (entry_at es before)) q

  pub lower-blocks : (pool : List ℕ) → blocks_in (lower until before es) pool ≡ blocks_in es pool
  unfolding lower lowered count_as expiry_as
  lower-blocks pool = go (eqb before unmapped)
    where
      go : (t : Bool) → blocks_in (when t then es else set es before (lowered until (entry_at es before))) pool ≡ blocks_in es pool
      go true = refl
      go false = blocks-kept es before (lowered until (entry_at es before)) pool refl refl

  abbrev prints_in : List Entry → List (List ℕ)
  prints_in l = map (λ (e : Entry). e.print) (those (λ (e : Entry). e.held) l)

  pub lower-prints : prints_in (lower until before es) ≡ prints_in es
  unfolding lower lowered count_as expiry_as
  lower-prints = go (eqb before unmapped)
    where
      go : (t : Bool) → prints_in (when t then es else set es before (lowered until (entry_at es before))) ≡ prints_in es
      go true = refl
      go false = prints-kept es before (lowered until (entry_at es before)) refl refl

  -- the lowered entry is before's, and no other
  pub lower-at : (q : ℕ) → q < unmapped → (before ≢ unmapped → before < length es)
      → entry_at (lower until before es) q ≡ (when eqb q before then lowered until (entry_at es q) else entry_at es q)
  unfolding lower
  lower-at q small k = go (eqb before unmapped) refl
    where
      named : (t : Bool) → eqb q before ≡ t
          → (when t then lowered until (entry_at es before) else entry_at es q)
          ≡ (when t then lowered until (entry_at es q) else entry_at es q)
      named true e = rw (eqb-true q before e)
      named false e = refl

      go : (t : Bool) → eqb before unmapped ≡ t
          → entry_at (when t then es else set es before (lowered until (entry_at es before))) q
          ≡ (when eqb q before then lowered until (entry_at es q) else entry_at es q)
      go true e = rw (ne_eqb q before (λ (z : q ≡ before). omega (arith, eqb-true before unmapped e)))
      go false e =
          get_d_set es before q (lowered until (entry_at es before)) free_entry (k (eqb-false before unmapped e))
          ∙ named (eqb q before) refl

-- ---- steps 3 and 4

-- the entries after both
abbrev pub moved_entries : ℕ → ℕ → ℕ → List Entry → List Entry
moved_entries until before p es = set (lower until before es) p (raised (entry_at (lower until before es) p))

module _ (until before p : ℕ) (es : List Entry) where
  pub length_moved : length (moved_entries until before p es) ≡ length es
  length_moved = length-set (lower until before es) p (raised (entry_at (lower until before es) p)) ∙ length-lower until before es

  moved-kept : {B : Type 0} (f : Entry → B) → ((e : Entry) → f (lowered until e) ≡ f e) → ((e : Entry) → f (raised e) ≡ f e)
      → (q : ℕ) → f (entry_at (moved_entries until before p es) q) ≡ f (entry_at es q)
  moved-kept f k r q =
      get_or-set-kept f (lower until before es) p (raised (entry_at (lower until before es) p)) free_entry
      (r (entry_at (lower until before es) p)) q
      ∙ lower-kept until before es f k q

  pub moved-held : (q : ℕ) → (entry_at (moved_entries until before p es) q).held ≡ (entry_at es q).held
  unfolding lowered raised count_as expiry_as
  moved-held q = moved-kept (λ (e : Entry). e.held) (λ e. refl) (λ e. refl) q

  pub moved-blocks : (pool : List ℕ) → blocks_in (moved_entries until before p es) pool ≡ blocks_in es pool
  unfolding raised count_as
  moved-blocks pool =
      blocks-kept (lower until before es) p (raised (entry_at (lower until before es) p)) pool refl refl ∙ lower-blocks until before es pool

  pub moved-prints : map (λ (e : Entry). e.print) (those (λ (e : Entry). e.held) (moved_entries until before p es))
      ≡ map (λ (e : Entry). e.print) (those (λ (e : Entry). e.held) es)
  unfolding raised count_as
  moved-prints =
      prints-kept (lower until before es) p (raised (entry_at (lower until before es) p)) refl refl ∙ lower-prints until before es

  module _ (q : ℕ) (small : q < unmapped) (k : before ≢ unmapped → before < length es) where
    pub lower-count : (entry_at (lower until before es) q).count ≡ (entry_at es q).count - bit (eqb q before)
    unfolding lowered count_as expiry_as
    lower-count = ap (λ (e : Entry). e.count) (lower-at until before es q small k) ∙ go (eqb q before)
      where
        go : (t : Bool) → (when t then lowered until (entry_at es q) else entry_at es q).count ≡ (entry_at es q).count - bit t
        go true = refl
        go false = omega arith

    pub moved-expiry : (entry_at (moved_entries until before p es) q).expiry ≡ max (entry_at es q).expiry (when eqb q before then until else 0)
    unfolding lowered raised count_as expiry_as
    moved-expiry =
        get_or-set-kept (λ (e : Entry). e.expiry) (lower until before es) p (raised (entry_at (lower until before es) p)) free_entry refl q
        ∙ ap (λ (e : Entry). e.expiry) (lower-at until before es q small k) ∙ go (eqb q before)
      where
        go : (t : Bool) → (when t then lowered until (entry_at es q) else entry_at es q).expiry
            ≡ max (entry_at es q).expiry (when t then until else 0)
        go true = refl
        go false = omega arith

    module _ (h : p < length es) where
      raise-at : entry_at (moved_entries until before p es) q
          ≡ (when eqb q p then raised (entry_at (lower until before es) p) else entry_at (lower until before es) q)
      raise-at = get_d_set (lower until before es) p q (raised (entry_at (lower until before es) p)) free_entry (rw length-lower h)

      pub moved-count : (entry_at (moved_entries until before p es) q).count ≡ (entry_at (lower until before es) q).count + bit (eqb q p)
      unfolding raised count_as
      moved-count = ap (λ (e : Entry). e.count) raise-at ∙ go (eqb q p) refl
        where
          go : (t : Bool) → eqb q p ≡ t
              → (when t then raised (entry_at (lower until before es) p) else entry_at (lower until before es) q).count
              ≡ (entry_at (lower until before es) q).count + bit t
          go true e = rw (eqb-true q p e) (omega arith)
          go false e = omega arith

      -- an entry that is neither the before nor the block found stays
      pub moved_other : eqb q before ≡ false → eqb q p ≡ false → entry_at (moved_entries until before p es) q ≡ entry_at es q
      moved_other e f = raise-at ∙ rw f (lower-at until before es q small k ∙ rw e)
