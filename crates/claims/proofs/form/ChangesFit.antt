-- The changes of a good list have LBNs below L, whole fingerprints and whole blocks.
use Prim.Native.Nat.{ℕ, ◌≤◌, ◌<◌}
use mathlib.Core.Path.{◌≡◌}
use mathlib.Core.Bool.{Bool, true, ◌&&◌}
use mathlib.Core.List.{List}
use lib.Dec.{ltb, eqb}
use lib.ListN.{length}
use borrow.Author.Tests.{ltb-true, eqb-true, lt-ltb, eq-eqb}
use Rattle.words.specs.Blocks.{print_size, block_size}
use Rattle.words.proofs.ChoiceLaws.{and_true, true_and}
use Rattle.words.specs.Lists.{all}
use Rattle.words.proofs.Places.{place-all}
use Rattle.runs.specs.Changes.{Change, change_at, change_count, changes, list_number}
use Rattle.runs.proofs.Laws.{length-changes, get_or-changes, list-size, change_below, length-print, length-block}

unfoldable pub change_fit : ℕ → Change → Bool
change_fit l c = ltb c.lbn l && eqb (length c.print) print_size && eqb (length c.block) block_size

-- what the test says
pub record ChangeFit (l : ℕ) (c : Change) : Type 0 where
  pub lbn : c.lbn < l
  pub print : length c.print ≡ print_size
  pub block : length c.block ≡ block_size

module _ (l : ℕ) (c : Change) where
  pub change_says : change_fit l c ≡ true → ChangeFit l c
  unfolding change_fit
  change_says e =
      let a = and_true (ltb c.lbn l && eqb (length c.print) print_size) (eqb (length c.block) block_size) e in
      let b = and_true (ltb c.lbn l) (eqb (length c.print) print_size) a.0 in
      record {
        lbn = ltb-true c.lbn l b.0;
        print = eqb-true (length c.print) print_size b.1;
        block = eqb-true (length c.block) block_size a.1;
      }

  change_passes : ChangeFit l c → change_fit l c ≡ true
  unfolding change_fit
  change_passes f =
      true_and (ltb c.lbn l && eqb (length c.print) print_size) (eqb (length c.block) block_size)
      (true_and (ltb c.lbn l) (eqb (length c.print) print_size)
      (lt-ltb c.lbn l f.lbn)
      (eq-eqb (length c.print) print_size f.print))
      (eq-eqb (length c.block) block_size f.block)

pub changes-fit : (l : ℕ) (list : List ℕ) → l ≤ 1024 → list_number l list ≡ 0 → all (change_fit l) (changes list) ≡ true
changes-fit l list small good =
    place-all (change_fit l) (changes list) (change_at list 0) (λ i h.
    let k : i < change_count list = rw (length-changes list) at h in
    rw (get_or-changes list i (change_at list 0) k)
    (change_passes l (change_at list i) (record {
      lbn = change_below l list good i k;
      print = length-print list (list-size l list good) i k;
      block = length-block list (list-size l list good) i k;
    })))
