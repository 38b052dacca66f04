-- Laws of the pool as a backup sees it: block by block, at the start, and when a block is taken.
use Prim.Native.Nat.{ℕ, zero, suc, ◌+◌, ◌*◌, ◌-◌, ◌≤◌, ◌<◌}
use mathlib.Core.Path.{◌≡◌, refl, sym, ap, ◌∙◌}
use mathlib.Core.Bool.{Bool, true, false}
use mathlib.Core.List.{List, [], ◌++◌, map, append-nil, append_assoc}
use mathlib.Core.Logic.{⊎_elim}
use native.Mathlib.Nat.{zero-add}
use native.Mathlib.Omega.{arith}
use lib.Dec.{eqb}
use lib.ListN.{length, get_or, take, drop, set, length-drop}
use lib.Seq.{take_at, drop_at, length-take-le, drop-drop, take-append-le, drop-append-le, drop-append-add, get_or-set_same, get_or-set_other}
use borrow.Author.Tests.{eqb-true, eqb-false, eq-eqb}
use Rattle.words.specs.Blocks.{block_size}
use Rattle.words.specs.Choice.{when◌then◌else◌}
use Rattle.words.specs.Lists.{joined, up_from}
use Rattle.words.proofs.Parts.{length_part, part-part}
use Rattle.words.proofs.Pieces.{sized, part-sized, length-sized, all-pieces}
use Rattle.words.proofs.Places.{all-up_from}
use Rattle.words.proofs.Ranges.{below_or_not, length-up_from, get_or-up_from}
use Rattle.words.specs.Sections.{part, flat}
use Rattle.runs.specs.Changes.{change_at}
use Rattle.book.specs.Book.{Entry, entry_at}
use Rattle.model.specs.Pool.{pool_size, block_at, with_block}
use Rattle.claims.proofs.agreement.BlockLaws.{length_with}
use Rattle.placer.specs.Working.{held_block, block_now, pool_now}

-- ---- a pool by its blocks

map_same : {B : Type 0} (f g : ℕ → B) (i m : ℕ) → ((k : ℕ) → i ≤ k → k < i + m → f k ≡ g k) → map f (up_from i m) ≡ map g (up_from i m)
map_same f g i zero h = refl
map_same f g i (suc m) h = rw (h i (omega arith) (omega arith), map_same f g (suc i) m (λ k a b. h k (omega arith) (omega arith)))

pub by_blocks : (n : ℕ) (pool : List ℕ) (f : ℕ → List ℕ) → length pool ≡ pool_size n
    → ((p : ℕ) → p < n → block_at pool p ≡ f p) → pool ≡ joined (map f (up_from 0 n))
by_blocks n pool f l h =
    sym (all-pieces block_size pool n l)
    ∙ ap (λ (bs : List (List ℕ)). joined bs) (map_same (block_at pool) f 0 n (λ k a b. h k (omega arith)))

-- ---- a block written

module _ (pool c : List ℕ) (p n : ℕ) (h : p < n) (l : length pool ≡ pool_size n) (k : length c ≡ block_size) where
  abbrev head : List ℕ
  head = take (p * block_size) pool

  abbrev last : List ℕ
  last = drop (p * block_size + block_size) pool

  length-head : length head ≡ p * block_size
  length-head = length-take-le (p * block_size) pool (omega arith)

  with_parts : with_block pool p c ≡ head ++ (c ++ last)
  with_parts = simp append_assoc

  with_here : block_at (with_block pool p c) p ≡ c
  with_here =
      ap (λ (b : List ℕ). block_at b p) with_parts
      ∙ ap (λ (b : List ℕ). take block_size b) (drop_at head (c ++ last) (p * block_size) length-head)
      ∙ take_at c last block_size k

  with_before : (q : ℕ) → q < p → block_at (with_block pool p c) q ≡ block_at pool q
  with_before q b =
      let e = length-head in
      ap (λ (b : List ℕ). block_at b q) with_parts
      ∙ ap (λ (b : List ℕ). take block_size b) (drop-append-le (q * block_size) head (c ++ last) (omega arith))
      ∙ take-append-le block_size (drop (q * block_size) head) (c ++ last) (rw length-drop (omega arith))
      ∙ part-part pool 0 (p * block_size) (q * block_size) block_size (omega arith)
      ∙ ap (λ (o : ℕ). part pool o block_size) (zero-add (q * block_size))

  with_after : (q : ℕ) → p < q → block_at (with_block pool p c) q ≡ block_at pool q
  with_after q b =
      let r = (q - p - 1) * block_size in
      let e = length-head in
      let o : q * block_size ≡ length head + (length c + r) = omega arith in
      let o' : p * block_size + block_size + r ≡ q * block_size = omega arith in
      ap (λ (b : List ℕ). block_at b q) with_parts
      ∙ ap (λ (i : ℕ). take block_size (drop i (head ++ (c ++ last)))) o
      ∙ ap (λ (b : List ℕ). take block_size b)
      (drop-append-add head (c ++ last) (length c + r) ∙ drop-append-add c last r
      ∙ drop-drop r (p * block_size + block_size) pool)
      ∙ ap (λ (o : ℕ). part pool o block_size) o'

  pub block_with : (q : ℕ) → block_at (with_block pool p c) q ≡ (when eqb q p then c else block_at pool q)
  block_with q = go (eqb q p) refl
    where
      go : (t : Bool) → eqb q p ≡ t → block_at (with_block pool p c) q ≡ (when t then c else block_at pool q)
      go true e = rw (eqb-true q p e) with_here
      go false e = ⊎_elim (with_before q) (λ b. with_after q (let d = eqb-false q p e in omega arith)) (below_or_not q p)

-- ---- the pool that a backup sees

module _ (old new : List Entry) (taker list pool : List ℕ) where
  -- the bytes of each block are known
  pub record Known (m : ℕ) : Type 0 where
    pub size : length pool ≡ pool_size (length old)
    pub whole : (i : ℕ) → i < m → length (change_at list i).block ≡ block_size
    pub marks : (p : ℕ) → (entry_at old p).held ≡ false → (entry_at new p).held ≡ true → get_or taker p 0 < m

  block_size_lem : (m : ℕ) → Known m → (p : ℕ) → p < length old → length (block_now old new taker list pool p) ≡ block_size
  unfolding block_now held_block
  block_size_lem m k p h = go (entry_at new p).held (entry_at old p).held refl refl
    where
      go : (s t : Bool) → (entry_at new p).held ≡ s → (entry_at old p).held ≡ t
          → length (when s then when t then block_at pool p else (change_at list (get_or taker p 0)).block else block_at pool p) ≡ block_size
      go true true e f = length_part pool (p * block_size) block_size (omega (arith, k.size))
      go true false e f = k.whole (get_or taker p 0) (k.marks p f e)
      go false t e f = length_part pool (p * block_size) block_size (omega (arith, k.size))

  sized-now : (m : ℕ) → Known m → sized block_size (block_now old new taker list pool) (up_from 0 (length old)) ≡ true
  sized-now m k =
      all-up_from (λ p. eqb (length (block_now old new taker list pool p)) block_size) 0 (length old)
      (λ p a b. eq-eqb (length (block_now old new taker list pool p)) block_size (block_size_lem m k p (omega arith)))

  pub block-now : (m : ℕ) → Known m → (p : ℕ) → p < length old
      → block_at (pool_now old new taker list pool) p ≡ block_now old new taker list pool p
  unfolding pool_now
  block-now m k p h =
      let f = block_now old new taker list pool in
      ap (λ (b : List ℕ). block_at b p) (sym (append-nil (flat f (up_from 0 (length old)))))
      ∙ part-sized block_size f (up_from 0 (length old)) [] p 0 (sized-now m k) (rw length-up_from h)
      ∙ ap f (get_or-up_from 0 (length old) p h ∙ zero-add p)

  pub length-now : (m : ℕ) → Known m → length (pool_now old new taker list pool) ≡ pool_size (length old)
  unfolding pool_now
  length-now m k = length-sized block_size (block_now old new taker list pool) (up_from 0 (length old)) (sized-now m k) ∙ rw length-up_from

  -- a pool with these blocks is it
  pub is-now : (b : List ℕ) → length b ≡ pool_size (length old)
      → ((p : ℕ) → p < length old → block_at b p ≡ block_now old new taker list pool p)
      → b ≡ pool_now old new taker list pool
  unfolding pool_now
  is-now b l h = by_blocks (length old) b (block_now old new taker list pool) l h

-- before the first change
pub start-now : (old : List Entry) (taker list pool : List ℕ) → length pool ≡ pool_size (length old) → pool_now old old taker list pool ≡ pool
unfolding block_now held_block
start-now old taker list pool l = sym (is-now old old taker list pool pool l (λ p h. go (entry_at old p).held p))
  where
    go : (t : Bool) (p : ℕ) → block_at pool p
        ≡ (when t then when t then block_at pool p else (change_at list (get_or taker p 0)).block else block_at pool p)
    go true p = refl
    go false p = refl

-- only which blocks are held shows
pub same-now : (old new new' : List Entry) (taker list pool : List ℕ)
    → ((p : ℕ) → (entry_at new' p).held ≡ (entry_at new p).held)
    → pool_now old new taker list pool ≡ pool_now old new' taker list pool
unfolding pool_now block_now
same-now old new new' taker list pool h =
    ap (λ (bs : List (List ℕ)). joined bs)
    (map_same (block_now old new taker list pool) (block_now old new' taker list pool) 0 (length old)
    (λ p a b. ap (λ (t : Bool). when t then held_block old taker list pool p else block_at pool p) (sym (h p))))

-- block p, free until now, is taken by change i
module _ (old new new' : List Entry) (taker list pool : List ℕ) (m : ℕ) (k : Known old new taker list pool m) (p i : ℕ) where
  pub taken-now : p < length old → p < length taker → length (change_at list i).block ≡ block_size
      → (entry_at old p).held ≡ false → (entry_at new' p).held ≡ true
      → ((q : ℕ) → (q ≡ p → ⊥) → (entry_at new' q).held ≡ (entry_at new q).held)
      → with_block (pool_now old new taker list pool) p (change_at list i).block ≡ pool_now old new' (set taker p i) list pool
  unfolding block_now held_block
  taken-now hp hb hc f e others =
      is-now old new' (set taker p i) list pool (with_block P p c)
      (length_with P c p (length old) hc hp l)
      (λ q h. block_with P c p (length old) hp l hc q ∙ go q h (eqb q p) refl)
    where
      P : List ℕ
      P = pool_now old new taker list pool

      c : List ℕ
      c = (change_at list i).block

      l : length P ≡ pool_size (length old)
      l = length-now old new taker list pool m k

      go : (q : ℕ) → q < length old → (t : Bool) → eqb q p ≡ t
          → (when t then c else block_at P q)
          ≡ (when (entry_at new' q).held then when (entry_at old q).held then block_at pool q
          else (change_at list (get_or (set taker p i) q 0)).block else block_at pool q)
      go q h true z = rw (eqb-true q p z, e, f, get_or-set_same taker p i 0 hb)
      go q h false z =
          let d = eqb-false q p z in
          block-now old new taker list pool m k q h ∙ rw (others q d, get_or-set_other taker p q i 0 d)

-- where the bytes of a held block stand
module _ (old : List Entry) (taker list pool : List ℕ) (p : ℕ) where
  pub in_pool : (entry_at old p).held ≡ true → held_block old taker list pool p ≡ block_at pool p
  unfolding held_block
  in_pool e = rw e

  pub in_list : (entry_at old p).held ≡ false → held_block old taker list pool p ≡ (change_at list (get_or taker p 0)).block
  unfolding held_block
  in_list e = rw e
