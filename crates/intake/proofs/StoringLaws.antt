-- Laws of specs/Storing.antt.
-- Pass 2 of a backup: block after block, those that its changes took are written to the pool.
use Prim.Native.Nat.{ℕ, ◌+◌, ◌≤◌, ◌<◌}
use mathlib.Core.Path.{◌≡◌, refl, sym, ◌∙◌}
use mathlib.Core.Bool.{Bool, true, false}
use mathlib.Core.List.{List}
use native.Mathlib.Omega.{arith}
use lib.Dec.{eqb}
use lib.ListN.{length, get_or}
use borrow.Author.Tests.{eqb-true, eqb-false, ne_eqb}
use Rattle.words.specs.Choice.{when◌then◌else◌}
use Rattle.runs.specs.Changes.{change_at}
use Rattle.book.specs.Book.{Entry, entry_at}
use Rattle.model.specs.Pool.{pool_size, block_at, with_block}
use Rattle.claims.proofs.agreement.BlockLaws.{length_with}
use Rattle.placer.proofs.PoolLaws.{Known, block_with, is-now}
use Rattle.placer.specs.Working.{held_block, block_now, pool_now}
use Rattle.intake.specs.Storing.{stored_block}

module _ (old new : List Entry) (taker list pool₀ : List ℕ) where
  -- the blocks below p are written, the others are as they were
  pub record Stored (pool : List ℕ) (p : ℕ) : Type 0 where
    pub size : length pool ≡ pool_size (length old)
    pub below : (q : ℕ) → q < p → block_at pool q ≡ block_now old new taker list pool₀ q
    pub above : (q : ℕ) → p ≤ q → block_at pool q ≡ block_at pool₀ q

  pub stored-none : length pool₀ ≡ pool_size (length old) → Stored pool₀ 0
  stored-none l = record { size = l; below = λ q h. absurd (omega arith); above = λ q h. refl }

  pub stored-all : (pool : List ℕ) (p : ℕ) → length old ≤ p → Stored pool p → pool ≡ pool_now old new taker list pool₀
  stored-all pool p h s = is-now old new taker list pool₀ pool s.size (λ q l. s.below q (omega arith))

  module _ (m : ℕ) (k : Known old new taker list pool₀ m) (pool : List ℕ) (p : ℕ) (h : p < length old) (s : Stored pool p) where
    -- where nothing is written
    kept : block_now old new taker list pool₀ p ≡ block_at pool₀ p → Stored pool (p + 1)
    kept e = record {
      size = s.size;
      below = λ q l. go q l (eqb q p) refl;
      above = λ q l. s.above q (omega arith);
    }
      where
        go : (q : ℕ) → q < p + 1 → (t : Bool) → eqb q p ≡ t → block_at pool q ≡ block_now old new taker list pool₀ q
        go q l true z = rw (eqb-true q p z) (s.above p (omega arith) ∙ sym e)
        go q l false z = s.below q (let d = eqb-false q p z in omega arith)

    -- where the change's block is
    wrote : (c : List ℕ) → length c ≡ 512 → block_now old new taker list pool₀ p ≡ c → Stored (with_block pool p c) (p + 1)
    wrote c hc e = record {
      size = length_with pool c p (length old) hc h s.size;
      below = λ q l. block_with pool c p (length old) h s.size hc q ∙ go q l (eqb q p) refl;
      above = λ q l. block_with pool c p (length old) h s.size hc q ∙ rw (ne_eqb q p (λ z. omega arith)) (s.above q (omega arith));
    }
      where
        go : (q : ℕ) → q < p + 1 → (t : Bool) → eqb q p ≡ t → (when t then c else block_at pool q) ≡ block_now old new taker list pool₀ q
        go q l true z = rw (eqb-true q p z) (sym e)
        go q l false z = s.below q (let d = eqb-false q p z in omega arith)

    pub stored_more : Stored (stored_block old new taker list pool p) (p + 1)
    unfolding stored_block block_now held_block
    stored_more = go (entry_at old p).held (entry_at new p).held refl refl
      where
        go : (t u : Bool) → (entry_at old p).held ≡ t → (entry_at new p).held ≡ u
            → Stored (when t then pool else when u then with_block pool p (change_at list (get_or taker p 0)).block else pool) (p + 1)
        go true true e f = kept (rw (f, e))
        go true false e f = kept (rw f)
        go false true e f = wrote (change_at list (get_or taker p 0)).block (k.whole (get_or taker p 0) (k.marks p e f)) (rw (f, e))
        go false false e f = kept (rw f)

-- the three ways of a block
module _ (old new : List Entry) (taker list pool : List ℕ) (p : ℕ) where
  pub stored-old : (entry_at old p).held ≡ true → pool ≡ stored_block old new taker list pool p
  unfolding stored_block
  stored-old e = rw e

  pub stored-free : (entry_at old p).held ≡ false → (entry_at new p).held ≡ false → pool ≡ stored_block old new taker list pool p
  unfolding stored_block
  stored-free e f = rw (e, f)

  pub stored-new : (entry_at old p).held ≡ false → (entry_at new p).held ≡ true
      → with_block pool p (change_at list (get_or taker p 0)).block ≡ stored_block old new taker list pool p
  unfolding stored_block
  stored-new e f = rw (e, f)
