-- The blocks that entries and pool show, and the plain store's: lookups find the same place, a taken block is the same one, counts and
-- expiries don't show.
use Prim.Native.Nat.{ℕ, zero, suc, ◌+◌, ◌*◌, ◌<◌, ◌≤◌}
use mathlib.Core.Path.{◌≡◌, refl, ap}
use mathlib.Core.Bool.{Bool, true, false, not, ◌&&◌}
use mathlib.Core.List.{List, [], ◌∷◌, ◌++◌, append_assoc}
use native.Mathlib.Omega.{arith}
use lib.ListN.{length, take, drop, set, length-append, length-take, length-drop}
use lib.Seq.{drop-drop, take-add, take_at, drop_at, length-take-le}
use Rattle.words.specs.Blocks.{block_size}
use Rattle.words.specs.Choice.{when◌then◌else◌}
use Rattle.words.specs.Lists.{place_from, same}
use Rattle.book.specs.Book.{Entry, entry_at, is_free}
use Rattle.book.specs.Next.{held_as}
use Rattle.model.specs.Pool.{pool_size, with_block}
use Rattle.model.specs.Backup.{find_held, find_free}
use Rattle.model.specs.Plain
use Rattle.model.specs.Plain.{Block, free, held}
use Rattle.model.specs.PlainBackup
use Rattle.model.specs.PlainBackup.{has_print}
use Rattle.model.specs.Sides.{blocks_in}

-- ---- the lookups

print-head : (t : Bool) (g f b : List ℕ) → (t && same g f) ≡ has_print f (when t then held g b else free)
print-head true g f b = refl
print-head false g f b = refl

print-place : (i : ℕ) (es : List Entry) (pool f : List ℕ)
    → place_from i (λ (e : Entry). e.held && same e.print f) es ≡ place_from i (has_print f) (blocks_in es pool)
print-place i [] pool f = refl
print-place i (e ∷ es) pool f =
    rw (print-head e.held e.print f (take block_size pool), print-place (suc i) es (drop block_size pool) f)

pub found-same : (es : List Entry) (pool f : List ℕ) → find_held es f ≡ PlainBackup.find_held (blocks_in es pool) f
unfolding find_held PlainBackup.find_held
found-same es pool f = print-place 0 es pool f

free-head : (t : Bool) (g b : List ℕ) → not t ≡ Plain.is_free (when t then held g b else free)
free-head true g b = refl
free-head false g b = refl

free-place : (i : ℕ) (es : List Entry) (pool : List ℕ) → place_from i is_free es ≡ place_from i Plain.is_free (blocks_in es pool)
free-place i [] pool = refl
free-place i (e ∷ es) pool = rw (free-head e.held e.print (take block_size pool), free-place (suc i) es (drop block_size pool))

free-drop : (i c : ℕ) (es : List Entry) (pool : List ℕ)
    → place_from i is_free (drop c es) ≡ place_from i Plain.is_free (drop c (blocks_in es pool))
free-drop i zero es pool = free-place i es pool
free-drop i (suc c) [] pool = refl
free-drop i (suc c) (e ∷ es) pool = free-drop i c es (drop block_size pool)

free-take : (i c : ℕ) (es : List Entry) (pool : List ℕ)
    → place_from i is_free (take c es) ≡ place_from i Plain.is_free (take c (blocks_in es pool))
free-take i zero es pool = refl
free-take i (suc c) [] pool = refl
free-take i (suc c) (e ∷ es) pool =
    rw (free-head e.held e.print (take block_size pool), free-take (suc i) c es (drop block_size pool))

pub free-same : (es : List Entry) (pool : List ℕ) (c : ℕ) → find_free es c ≡ PlainBackup.find_free (blocks_in es pool) c
unfolding find_free PlainBackup.find_free
free-same es pool c = rw (free-drop c c es pool, free-take 0 c es pool)

-- ---- a block taken

-- a block written past the first, seen from one block on
with_split : (pool c : List ℕ) (p : ℕ) → with_block pool (suc p) c ≡ take block_size pool ++ with_block (drop block_size pool) p c
with_split pool c p =
    let s : suc p * block_size ≡ block_size + p * block_size = omega arith in
    let e : block_size + p * block_size + block_size ≡ block_size + (p * block_size + block_size) = omega arith in
    rw (s, e, take-add block_size (p * block_size) pool, drop-drop (p * block_size + block_size) block_size pool) (simp append_assoc)

module _ (pool c : List ℕ) (p : ℕ) (h : block_size ≤ length pool) where
  take_with : take block_size (with_block pool (suc p) c) ≡ take block_size pool
  take_with = rw (with_split pool c p) (take_at (take block_size pool) _ block_size (length-take-le block_size pool h))

  drop_with : drop block_size (with_block pool (suc p) c) ≡ with_block (drop block_size pool) p c
  drop_with = rw (with_split pool c p) (drop_at (take block_size pool) _ block_size (length-take-le block_size pool h))

pub length_with : (pool c : List ℕ) (p n : ℕ) → length c ≡ block_size → p < n → length pool ≡ pool_size n
    → length (with_block pool p c) ≡ pool_size n
length_with pool c p n l h k = simp (length-append, length-take, length-drop) (omega arith)

pub taken-same : (es : List Entry) (pool f c : List ℕ) (p : ℕ) → p < length es → length pool ≡ pool_size (length es) → length c ≡ block_size
    → blocks_in (set es p (held_as f (entry_at es p))) (with_block pool p c) ≡ set (blocks_in es pool) p (held f c)
unfolding held_as
taken-same [] pool f c p h k l = absurd (omega arith)
taken-same (e ∷ es) pool f c zero h k l = rw (take_at c (drop block_size pool) block_size l, drop_at c (drop block_size pool) block_size l)
taken-same (e ∷ es) pool f c (suc p) h k l =
    let big : block_size ≤ length pool = omega arith in
    let rest : length (drop block_size pool) ≡ pool_size (length es) = simp length-drop (omega arith) in
    rw (take_with pool c p big, drop_with pool c p big)
    (ap (λ (bs : List Block). (when e.held then held e.print (take block_size pool) else free) ∷ bs)
    (taken-same es (drop block_size pool) f c p (omega arith) rest l))

-- ---- an entry that keeps its state and fingerprint shows the same block

pub blocks-kept : (es : List Entry) (b : ℕ) (x : Entry) (pool : List ℕ) → x.held ≡ (entry_at es b).held → x.print ≡ (entry_at es b).print
    → blocks_in (set es b x) pool ≡ blocks_in es pool
blocks-kept [] b x pool h k = refl
blocks-kept (e ∷ es) zero x pool h k = rw (h, k)
blocks-kept (e ∷ es) (suc b) x pool h k = rw (blocks-kept es b x (drop block_size pool) h k)
