-- Block p of a book and its pool, as the plain store has it.
use Prim.Native.Nat.{ℕ, zero, suc, ◌+◌, ◌*◌, ◌<◌}
use mathlib.Core.Path.{◌≡◌, refl, ap, ◌∙◌}
use mathlib.Core.Bool.{true, false}
use mathlib.Core.List.{List, [], ◌∷◌}
use native.Mathlib.Omega.{arith}
use lib.ListN.{length, get_or, take, drop}
use lib.Seq.{drop-drop}
use Rattle.words.specs.Blocks.{block_size}
use Rattle.words.specs.Choice.{when◌then◌else◌}
use Rattle.words.proofs.ChoiceLaws.{not_both}
use Rattle.book.specs.Book.{Entry, free_entry, entry_at}
use Rattle.model.specs.Pool.{block_at}
use Rattle.model.specs.Plain.{Block, free, held, bytes_of}
use Rattle.model.specs.Sides.{blocks_in}

-- the block of an entry, with its bytes
abbrev pub block_of : Entry → List ℕ → Block
block_of e c = when e.held then held e.print c else free

pub blocks_in-at : (es : List Entry) (pool : List ℕ) (p : ℕ) → p < length es
    → get_or (blocks_in es pool) p free ≡ block_of (entry_at es p) (block_at pool p)
blocks_in-at [] pool p h = absurd (omega arith)
blocks_in-at (e ∷ es) pool zero h = refl
blocks_in-at (e ∷ es) pool (suc p) h =
    let at : block_size + p * block_size ≡ suc p * block_size = omega arith in
    blocks_in-at es (drop block_size pool) p (omega arith)
    ∙ ap (λ (c : List ℕ). block_of (entry_at es p) (take block_size c)) (drop-drop (p * block_size) block_size pool ∙ ap (λ k. drop k pool) at)

pub length-blocks_in : (es : List Entry) (pool : List ℕ) → length (blocks_in es pool) ≡ length es
length-blocks_in [] pool = refl
length-blocks_in (e ∷ es) pool = ap suc (length-blocks_in es (drop block_size pool))

-- the bytes of a held block
pub held_bytes : (es : List Entry) (pool : List ℕ) (p : ℕ) → p < length es → (entry_at es p).held ≡ true
    → bytes_of (get_or (blocks_in es pool) p free) ≡ block_at pool p
held_bytes es pool p h k = rw (blocks_in-at es pool p h, k)

-- past the end all are free
pub held-inside : (es : List Entry) (p : ℕ) → (entry_at es p).held ≡ true → p < length es
unfolding free_entry
held-inside [] p e = absurd (not_both false e refl)
held-inside (e ∷ es) zero h = omega arith
held-inside (e ∷ es) (suc p) h = let k = held-inside es p h in omega arith
