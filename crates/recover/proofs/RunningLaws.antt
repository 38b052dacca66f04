-- Laws of specs/Running.antt: number 21 by its tests, and number 18 and the blocks of a run by a table of the image.
use Prim.Native.Nat.{ℕ, zero, suc, ◌+◌, ◌*◌, ◌-◌, ◌<◌}
use mathlib.Core.Path.{◌≡◌, refl, sym, ap, ap₂, ◌∙◌}
use mathlib.Core.Bool.{Bool, true, false, not}
use mathlib.Core.List.{List, ◌++◌}
use native.Mathlib.Omega.{arith}
use lib.Dec.{ltb, eqb}
use lib.ListN.{get_or}
use borrow.Author.Tests.{lt-ltb, not-false, not-true}
use Rattle.words.specs.Blocks.{block_size, unmapped}
use Rattle.words.proofs.All.{all_not}
use Rattle.words.proofs.ChoiceLaws.{or_l, or_r}
use Rattle.words.proofs.Each.{each_same}
use Rattle.words.specs.Lists.{some_of, each, up_from}
use Rattle.words.specs.Outcome.{refused, accepted}
use Rattle.model.specs.Pool.{block_at}
use Rattle.model.specs.Restore.{run_number}
use Rattle.recover.specs.Running.{mapped_at, blocks_from, run_from}

-- ---- number 21

-- of a volume and an output, by what the code hands over for them
pub number_of : (first many : ℕ) {r l l' room room' : ℕ} → r ≡ run_number l first many room → l ≡ l' → room ≡ room'
    → r ≡ run_number l' first many room'
number_of first many e p q = e ∙ ap₂ (λ (l room : ℕ). run_number l first many room) p q

module _ (l first many room : ℕ) where
  pub run_past : l < first + many → run_number l first many room ≡ 21
  unfolding run_number
  run_past h = rw (or_l (ltb l (first + many)) (ltb room (many * block_size)) (lt-ltb l (first + many) h))

  pub run_short : room < many * block_size → run_number l first many room ≡ 21
  unfolding run_number
  run_short h = rw (or_r (ltb l (first + many)) (ltb room (many * block_size)) (lt-ltb room (many * block_size) h))

-- ---- number 18 and the blocks, where a table has the image's numbers

pub blocks-same : (pool : List ℕ) (f g : ℕ → ℕ) (first many : ℕ) → ((l : ℕ) → l < first + many → f l ≡ g l)
    → blocks_from pool f first many ≡ blocks_from pool g first many
unfolding blocks_from
blocks-same pool f g first zero h = refl
blocks-same pool f g first (suc m) h =
    ap₂ (λ (p : ℕ) (r : List ℕ). block_at pool p ++ r) (h first (omega arith))
    (blocks-same pool f g (suc first) m (λ l k. h l (omega arith)))

each_not : (f : ℕ → Bool) (i m : ℕ) → each (λ l. not (f l)) i (i + m) ≡ not (some_of f (up_from i m))
unfolding each
each_not f i m = let e : i + m - i ≡ m = omega arith in rw e (all_not f (up_from i m))

module _ (pool a : List ℕ) (image : ℕ → ℕ) (first many : ℕ) (same : (l : ℕ) → l < first + many → get_or a l 0 ≡ image l) where
  abbrev one_gone : Bool
  one_gone = some_of (λ l. eqb (image l) unmapped) (up_from first many)

  none-gone : each (mapped_at a) first (first + many) ≡ not one_gone
  none-gone =
      each_same (mapped_at a) (λ l. not (eqb (image l) unmapped)) first (first + many)
      (λ l h k. ap (λ (p : ℕ). not (eqb p unmapped)) (same l k))
      ∙ each_not (λ l. eqb (image l) unmapped) first many

  pub run-gone : each (mapped_at a) first (first + many) ≡ false → run_from pool image first many ≡ refused 18
  unfolding run_from
  run-gone e = rw (not-false one_gone (sym none-gone ∙ e))

  pub run_mapped : each (mapped_at a) first (first + many) ≡ true
      → run_from pool image first many ≡ accepted (blocks_from pool (λ l. get_or a l 0) first many)
  unfolding run_from
  run_mapped e =
      rw (not-true one_gone (sym none-gone ∙ e)) (ap accepted (sym (blocks-same pool (λ l. get_or a l 0) image first many same)))
