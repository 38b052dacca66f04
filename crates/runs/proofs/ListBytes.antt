-- What the reader finds in the bytes of any pairs and changes: the pairs, the changes, the size, and no refusal.
use Prim.Native.Nat.{ℕ, ◌+◌, ◌*◌, ◌<◌}
use mathlib.Core.Path.{◌≡◌, refl, sym, ap, ap₂, ◌∙◌}
use mathlib.Core.Bool.{true}
use mathlib.Core.List.{List, [], ◌∷◌, ◌++◌, map, append-nil}
use native.Mathlib.Nat.{add-zero, add_assoc}
use native.Mathlib.Omega.{arith}
use lib.ListN.{length, get_or, length-append, length-map, get_or-append, get_or-map}
use lib.Seq.{get_or-append-add}
use lib.Dec.{eqb}
use borrow.Author.Tests.{le-ltb, eq-eqb}
use Rattle.words.proofs.Ranges.{length-up_from}
use Rattle.words.specs.Lists.{sum, joined}
use Rattle.words.specs.Numbers.{two, num}
use Rattle.words.proofs.NumberLaws.{two_back}
use Rattle.words.specs.Sections.{flat, part}
use Rattle.words.proofs.SectionLaws.{tab-list, length-flat, get_or-flat, inside}
use Rattle.words.proofs.Pieces.{sized, part-past, length-sized, part-sized}
use Rattle.runs.specs.Changes.{Pair, Change, pair_size, pair_count, pair_at, pairs, lengths, run, change_count, lbns, prints_from}
use Rattle.runs.specs.Changes.{blocks_from, list_size, change_at, changes, pairs_fit, list_number}
use Rattle.words.specs.Blocks.{block_size, print_size}
use Rattle.runs.specs.Writer.{pair_bytes, list_bytes}

-- the fields of a change, as functions
abbrev pub lbn : Change → ℕ
lbn c = c.lbn

abbrev pub print : Change → List ℕ
print c = c.print

abbrev pub block : Change → List ℕ
block c = c.block

-- ---- the pairs, whatever the changes are

no_pair : Pair
no_pair = record { first = 0; many = 0 }

length-pair_bytes : (p : Pair) → length (pair_bytes p) ≡ pair_size
unfolding pair_bytes
length-pair_bytes p = refl

first_read : (p : Pair) → num (pair_bytes p) 0 ≡ p.first
unfolding pair_bytes
first_read p = two_back p.first

many_read : (p : Pair) → num (pair_bytes p) 2 ≡ p.many
unfolding pair_bytes
many_read p = two_back p.many

pair_byte : (ps : List Pair) (tail : List ℕ) (i j : ℕ) → i < length ps → j < pair_size
    → get_or (two (length ps) ++ (flat pair_bytes ps ++ tail)) (2 + i * pair_size + j) 0 ≡ get_or (pair_bytes (get_or ps i no_pair)) j 0
pair_byte ps tail i j hi hj =
    let here : i * pair_size + j < length (flat pair_bytes ps) =
    rw (length-flat pair_size pair_bytes length-pair_bytes ps) (inside i j (length ps) pair_size hi hj) in
    ap (λ (n : ℕ). get_or (two (length ps) ++ (flat pair_bytes ps ++ tail)) n 0) (add_assoc 2 (i * pair_size) j)
    ∙ get_or-append-add (two (length ps)) (flat pair_bytes ps ++ tail) (i * pair_size + j) 0
    ∙ get_or-append (flat pair_bytes ps) tail 0 (i * pair_size + j) here
    ∙ get_or-flat pair_size pair_bytes length-pair_bytes ps i j no_pair hi hj

module _ (ps : List Pair) (cs : List Change) where
  pub pair_count-back : pair_count (list_bytes ps cs) ≡ length ps
  unfolding pair_count list_bytes
  pair_count-back = two_back (length ps)

  pair_number : (i j : ℕ) → i < length ps → j + 1 < pair_size
      → num (list_bytes ps cs) (2 + i * pair_size + j) ≡ num (pair_bytes (get_or ps i no_pair)) j
  unfolding list_bytes
  pair_number i j hi hj =
      ap₂ (λ (a b : ℕ). a + b * 256) (pair_byte ps _ i j hi (omega arith))
      (ap (λ (n : ℕ). get_or (list_bytes ps cs) n 0) (add_assoc (2 + i * pair_size) j 1) ∙ pair_byte ps _ i (j + 1) hi hj)

  pair_at-back : (i : ℕ) → i < length ps → pair_at (list_bytes ps cs) i ≡ get_or ps i no_pair
  unfolding pair_at
  pair_at-back i hi =
      let a : num (list_bytes ps cs) (2 + i * pair_size) ≡ (get_or ps i no_pair).first =
      ap (λ (n : ℕ). num (list_bytes ps cs) n) (sym (add-zero (2 + i * pair_size))) ∙ pair_number i 0 hi (omega arith)
      ∙ first_read (get_or ps i no_pair)
      in
      let b : num (list_bytes ps cs) (2 + i * pair_size + 2) ≡ (get_or ps i no_pair).many =
      pair_number i 2 hi (omega arith) ∙ many_read (get_or ps i no_pair) in
      ap₂ (λ (x y : ℕ). record { first = x; many = y }) a b

  pub pairs-back : pairs (list_bytes ps cs) ≡ ps
  unfolding pairs
  pairs-back = rw pair_count-back (tab-list (length ps) (pair_at (list_bytes ps cs)) ps no_pair refl pair_at-back)

  pub change_count-back : change_count (list_bytes ps cs) ≡ sum (lengths ps)
  unfolding change_count
  change_count-back = ap (λ (l : List Pair). sum (lengths l)) pairs-back

  pub lbns-back : lbns (list_bytes ps cs) ≡ joined (map run ps)
  unfolding lbns
  lbns-back = ap (λ (l : List Pair). joined (map run l)) pairs-back

  -- what follows the pairs
  part-tail : (o m : ℕ) → part (list_bytes ps cs) (2 + length ps * pair_size + o) m ≡ part (flat print cs ++ flat block cs) o m
  unfolding list_bytes
  part-tail o m =
      let tail = flat print cs ++ flat block cs in
      ap (λ (n : ℕ). part (two (length ps) ++ (flat pair_bytes ps ++ tail)) n m) (add_assoc 2 (length ps * pair_size) o)
      ∙ part-past (two (length ps)) (flat pair_bytes ps ++ tail) 2 (length ps * pair_size + o) m refl
      ∙ part-past (flat pair_bytes ps) tail (length ps * pair_size) o m (length-flat pair_size pair_bytes length-pair_bytes ps)

-- ---- the changes, where the pairs name their LBNs and the fingerprints and blocks are whole

pub record Fitting (ps : List Pair) (cs : List Change) : Type 0 where
  pub named : map lbn cs ≡ joined (map run ps)
  pub prints : sized print_size print cs ≡ true
  pub blocks : sized block_size block cs ≡ true

pub length_runs : (ps : List Pair) → length (joined (map run ps)) ≡ sum (lengths ps)
length_runs [] = refl
length_runs (p ∷ ps) =
    length-append (run p) (joined (map run ps))
    ∙ ap₂ (λ (a b : ℕ). a + b) (length-up_from p.first p.many) (length_runs ps)

no_change : Change
no_change = record { lbn = 0; print = []; block = [] }

module _ (ps : List Pair) (cs : List Change) (f : Fitting ps cs) where
  pub count_fitting : change_count (list_bytes ps cs) ≡ length cs
  count_fitting =
      change_count-back ps cs ∙ sym (length_runs ps) ∙ ap length (sym f.named) ∙ length-map cs lbn

  part-prints : (o m : ℕ) → part (list_bytes ps cs) (prints_from (list_bytes ps cs) + o) m ≡ part (flat print cs ++ flat block cs) o m
  unfolding prints_from
  part-prints o m = ap (λ (n : ℕ). part (list_bytes ps cs) (2 + n * pair_size + o) m) (pair_count-back ps cs) ∙ part-tail ps cs o m

  part-blocks : (o m : ℕ) → part (list_bytes ps cs) (blocks_from (list_bytes ps cs) + o) m ≡ part (flat block cs) o m
  unfolding blocks_from
  part-blocks o m =
      ap (λ (n : ℕ). part (list_bytes ps cs) (prints_from (list_bytes ps cs) + n * print_size + o) m) count_fitting
      ∙ ap (λ (n : ℕ). part (list_bytes ps cs) n m) (add_assoc (prints_from (list_bytes ps cs)) (length cs * print_size) o)
      ∙ part-prints (length cs * print_size + o) m
      ∙ part-past (flat print cs) (flat block cs) (length cs * print_size) o m (length-sized print_size print cs f.prints)

  change_at-back : (i : ℕ) → i < length cs → change_at (list_bytes ps cs) i ≡ get_or cs i no_change
  unfolding change_at no_change
  change_at-back i h =
      let l : get_or (lbns (list_bytes ps cs)) i 0 ≡ (get_or cs i no_change).lbn =
      ap (λ (ls : List ℕ). get_or ls i 0) (lbns-back ps cs ∙ sym f.named) ∙ get_or-map lbn cs i no_change
      in
      let p : part (list_bytes ps cs) (prints_from (list_bytes ps cs) + i * print_size) print_size ≡ (get_or cs i no_change).print =
      part-prints (i * print_size) print_size ∙ part-sized print_size print cs (flat block cs) i no_change f.prints h
      in
      let b : part (list_bytes ps cs) (blocks_from (list_bytes ps cs) + i * block_size) block_size ≡ (get_or cs i no_change).block =
      part-blocks (i * block_size) block_size
      ∙ ap (λ (r : List ℕ). part r (i * block_size) block_size) (sym (append-nil (flat block cs)))
      ∙ part-sized block_size block cs [] i no_change f.blocks h
      in
      λ j. record { lbn = l j; print = p j; block = b j }

  pub changes-back : changes (list_bytes ps cs) ≡ cs
  unfolding changes
  changes-back = rw count_fitting (tab-list (length cs) (change_at (list_bytes ps cs)) cs no_change refl change_at-back)

  pub length_back : length (list_bytes ps cs) ≡ 2 + length ps * pair_size + length cs * (print_size + block_size)
  unfolding list_bytes
  length_back =
      let e : length (flat pair_bytes ps) ≡ length ps * pair_size = length-flat pair_size pair_bytes length-pair_bytes ps in
      let p : length (flat print cs) ≡ length cs * print_size = length-sized print_size print cs f.prints in
      let b : length (flat block cs) ≡ length cs * block_size = length-sized block_size block cs f.blocks in
      rw (length-append (flat pair_bytes ps) (flat print cs ++ flat block cs), length-append (flat print cs) (flat block cs)) (omega arith)

  size_back : eqb (length (list_bytes ps cs)) (list_size (list_bytes ps cs)) ≡ true
  unfolding list_size
  size_back =
      let e = pair_count-back ps cs in
      let n = count_fitting in
      eq-eqb (length (list_bytes ps cs))
      (2 + pair_count (list_bytes ps cs) * pair_size + change_count (list_bytes ps cs) * (print_size + block_size))
      (omega (arith, length_back))

  pub list_number-back : (L : ℕ) → pairs_fit L 0 ps ≡ true → list_number L (list_bytes ps cs) ≡ 0
  unfolding list_number
  list_number-back L e = rw (le-ltb (length (list_bytes ps cs)) 2 (omega (arith, length_back)), pairs-back ps cs, e, size_back)
