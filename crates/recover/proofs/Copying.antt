-- The copy of a run, block after block: what is stored and what is left make the run whole.
use Prim.Native.Nat.{ℕ, zero, suc, ◌+◌, ◌*◌, ◌-◌, ◌≤◌, ◌<◌}
use mathlib.Core.Path.{◌≡◌, refl, ap, ◌∙◌}
use mathlib.Core.List.{List, [], ◌++◌}
use native.Mathlib.Numerals.{add-one}
use native.Mathlib.Omega.{arith}
use lib.ListN.{length, get_or, take, drop, length-append}
use lib.Seq.{sets, length-sets}
use Rattle.words.specs.Blocks.{block_size}
use Rattle.words.proofs.LayingLaws.{Left, left-all, left-room, left-more, left-none}
use Rattle.words.proofs.Parts.{length_part}
use Rattle.words.specs.Sections.{part}
use Rattle.model.specs.Pool.{block_at}
use Rattle.recover.specs.Running.{Inside, blocks_from}

-- ---- the blocks of a run

module _ (pool : List ℕ) (f : ℕ → ℕ) where
  next : (l end : ℕ) → l < end → blocks_from pool f l (end - l) ≡ block_at pool (f l) ++ blocks_from pool f (l + 1) (end - (l + 1))
  unfolding blocks_from
  next l end h = let e : end - l ≡ suc (end - (l + 1)) = omega arith in rw (e, add-one l)

  none : (l end : ℕ) → end ≤ l → blocks_from pool f l (end - l) ≡ []
  unfolding blocks_from
  none l end h = let e : end - l ≡ 0 = omega arith in rw e

  pub length-blocks : (first many : ℕ) → ((l : ℕ) → first ≤ l → l < first + many → f l * block_size + block_size ≤ length pool)
      → length (blocks_from pool f first many) ≡ many * block_size
  unfolding blocks_from
  length-blocks first zero h = refl
  length-blocks first (suc m) h =
      rw length-append
      (omega (
        arith,
        length_part pool (f first * block_size) block_size (h first (omega arith) (omega arith)),
        length-blocks (suc first) m (λ l i k. h l (omega arith) (omega arith)),
      ))

-- a block as the code takes it: from o up to o + 512
abbrev taken : ℕ → List ℕ → List ℕ
taken o pool = take (o + block_size - o) (drop o pool)

taken-part : (o : ℕ) (pool : List ℕ) → taken o pool ≡ part pool o block_size
taken-part o pool = let n : o + block_size - o ≡ block_size = omega arith in rw n

-- ---- the blocks from LBN l on are left

abbrev numbers_of : List ℕ → ℕ → ℕ
numbers_of a l = get_or a l 0

pub record Copied (pool a old : List ℕ) (first end : ℕ) (out : List ℕ) (at l : ℕ) : Type 0 where
  pub left : Left old 0 (blocks_from pool (numbers_of a) first (end - first)) out at (blocks_from pool (numbers_of a) l (end - l))
  pub kept : length out ≡ length old

module _ {pool a old : List ℕ} {first end : ℕ} (i : Inside pool a first end (length old)) where
  pub copied_none : Copied pool a old first end old 0 first
  copied_none =
      let n = length-blocks pool (numbers_of a) first (end - first) (λ l h k. i.blocks l h (omega (arith, i.order))) in
      record { left = left-all (omega (arith, i.fits)); kept = refl }

  module _ {out : List ℕ} {at l : ℕ} (c : Copied pool a old first end out at l) (g : first ≤ l) (h : l < end) where
    block-length : length (block_at pool (numbers_of a l)) ≡ block_size
    block-length = length_part pool (numbers_of a l * block_size) block_size (i.blocks l g h)

    pub copied-room : at + length (taken (numbers_of a l * block_size) pool) ≤ length out
    copied-room =
        rw (taken-part (numbers_of a l * block_size) pool)
        (left-room c.left (block_at pool (numbers_of a l)) (blocks_from pool (numbers_of a) (l + 1) (end - (l + 1)))
        (next pool (numbers_of a) l end h))

    pub copied_more : {out' : List ℕ} → out' ≡ sets out at (taken (numbers_of a l * block_size) pool)
        → Copied pool a old first end out' (at + block_size) (l + 1)
    copied_more {out'} s =
        let block = block_at pool (numbers_of a l) in
        let s' : out' ≡ sets out at block = rw (taken-part (numbers_of a l * block_size) pool) at s in
        record {
          left =
              left-more c.left block (blocks_from pool (numbers_of a) (l + 1) (end - (l + 1))) (next pool (numbers_of a) l end h)
              (record { list = s'; place = omega (arith, block-length) });
          kept = ap length s' ∙ length-sets out at block ∙ c.kept;
        }

    -- the offset past block l fits
    pub copied-place : at + block_size ≤ length old
    copied-place = omega (arith, copied-room, ap length (taken-part (numbers_of a l * block_size) pool), block-length, c.kept)

  pub copied_all : {out : List ℕ} {at l : ℕ} → Copied pool a old first end out at l → end ≤ l
      → out ≡ sets old 0 (blocks_from pool (numbers_of a) first (end - first))
  copied_all {l = l} c h = (left-none c.left (none pool (numbers_of a) l end h)).list
