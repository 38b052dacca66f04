-- Laws of specs/MapsTaken.antt.
-- The maps gone through once: the test of their cells against a table, and a count for each block that they name.
use Prim.Native.Nat.{ℕ, ◌+◌, ◌*◌, ◌<◌}
use mathlib.Core.Path.{◌≡◌, sym}
use mathlib.Core.Bool.{Bool, true, ◌&&◌}
use mathlib.Core.List.{List}
use native.Mathlib.Omega.{arith}
use lib.ListN.{take, replicate, get_or-replicate}
use Rattle.words.specs.Lists.{each}
use Rattle.words.proofs.Each.{each_none, each-grow}
use Rattle.words.specs.Lists.{joined}
use Rattle.book.specs.Book.{volumes, Book}
use Rattle.book.specs.Layout.{book_of}
use Rattle.book.specs.FormFacts.{FormFacts}
use Rattle.accounts.specs.Counts.{Counted}
use Rattle.accounts.proofs.CountLaws.{counted_none, counted-row, counted-le, counted-rows}
use Rattle.due.specs.Pool.{pool_blocks}
use Rattle.replay.specs.Table.{row_size}
use Rattle.accounts.specs.TableMaps.{row_matches, table_matches}
use Rattle.accounts.specs.MapsTaken.{RowTaken, MapsTaken, AtMost}

-- ---- the volumes below v

pub record MapsTaking (x : Book) (cells : List ℕ) (v : ℕ) (good : Bool) (a : List ℕ) : Type 0 where
  pub test : good ≡ each (row_matches x.maps x.sizes.l cells) 0 v
  pub counts : Counted (replicate pool_blocks 0) (joined (take v x.maps)) a
  pub few : AtMost (v * row_size) a

pub taking_start : (x : Book) (cells : List ℕ) {n : ℕ} → n ≡ 0 → MapsTaking x cells 0 true (replicate pool_blocks n)
taking_start x cells {n} z =
    rw z (record {
      test = sym (each_none (row_matches x.maps x.sizes.l cells) 0 0 (omega arith));
      counts = counted_none (replicate pool_blocks 0);
      few = λ p h. omega (arith, get_or-replicate {A = ℕ} pool_blocks p 0 0 h);
    })

module _ {b : List ℕ} (f : FormFacts b) {cells : List ℕ} {v : ℕ} {good : Bool} {a : List ℕ} where
  pub taking_row : {good' : Bool} {a' : List ℕ} → v < volumes → MapsTaking (book_of b) cells v good a
      → RowTaken (book_of b) cells v a good' a'
      → MapsTaking (book_of b) cells (v + 1) (good && good') a'
  taking_row h w r =
      let z = f.holds in
      record {
        test = each-grow (row_matches (book_of b).maps (book_of b).sizes.l cells) 0 v (omega arith) w.test r.test;
        counts = counted-row (book_of b).maps v (omega (arith, z.sized.maps)) w.counts r.counts;
        few = λ p k. omega (arith, z.l, z.sized.cells v h, counted-le (v * row_size) p k (w.few p k) r.counts);
      }

  pub taking_end : v ≡ volumes → MapsTaking (book_of b) cells v good a → MapsTaken (book_of b) cells good a
  unfolding table_matches
  taking_end e w = record { test = rw e at w.test; counts = counted-rows f (rw e at w.counts) }
