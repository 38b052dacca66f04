-- Laws of specs/Readers.antt: a list that the check takes is whole, and the parts of a whole list have their sizes.
use Prim.Native.Nat.{ℕ, ◌≤◌, ◌<◌}
use mathlib.Core.Path.{◌≡◌, ap}
use mathlib.Core.List.{List}
use native.Mathlib.Omega.{arith}
use lib.ListN.{length}
use Rattle.std.proofs.Common.{Some}
use Rattle.words.specs.Blocks.{block_size, print_size}
use Rattle.runs.specs.Changes.{pair_count, change_count, list_size, change_at}
use Rattle.runs.proofs.Laws as runs
use Rattle.pairs.specs.Answers.{shape_of, checked_of}
use Rattle.pairs.proofs.AnswerLaws.{good-number, good-shape}
use Rattle.pairs.specs.declared.Shape.{Shape}
use Rattle.list.specs.Readers.{Whole}

-- ---- the check's answer
module _ (L : ℕ) (b : List ℕ) where
  pub good-whole : (s : Shape) → L ≤ 65535 → checked_of L b ≡ Some s → Whole b s
  unfolding shape_of list_size
  good-whole s h e =
      let good = good-number L b s e in
      let ps : s.pairs ≡ pair_count b = ap (λ (x : Shape). x.pairs) (good-shape L b s e) in
      let cs : s.changes ≡ change_count b = ap (λ (x : Shape). x.changes) (good-shape L b s e) in
      record {
        pairs = ps;
        changes = cs;
        size = rw (ps, cs) (runs.list-size L b good);
        some = λ i k. (runs.pair-bounds L b good i k).0;
        bound = λ i k. omega (arith, runs.pair-bounds L b good i k);
      }

-- ---- the parts of a whole list
module _ (b : List ℕ) (s : Shape) (whole : Whole b s) where
  whole-size : length b ≡ list_size b
  unfolding list_size
  whole-size = rw (← whole.pairs, ← whole.changes) whole.size

  module _ (i : ℕ) (h : i < change_count b) where
    pub length-print : length (change_at b i).print ≡ print_size
    length-print = runs.length-print b whole-size i h

    pub length-block : length (change_at b i).block ≡ block_size
    length-block = runs.length-block b whole-size i h
