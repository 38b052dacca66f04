-- The marked blocks of an accepted input: changes with whole fingerprints and blocks, whose LBNs the runs name.
use Prim.Native.Nat.{ℕ, ◌*◌, ◌≤◌, ◌<◌}
use mathlib.Core.Path.{◌≡◌, refl, sym, ap, ◌∙◌}
use mathlib.Core.Bool.{Bool, true, ◌&&◌}
use mathlib.Core.List.{List, [], ◌∷◌, map, map-map, map-id}
use native.Mathlib.Omega.{arith}
use lib.ListN.{length, length-take, length-drop}
use lib.Dec.{leb, ltb, eqb}
use borrow.Author.Tests.{leb-true, eqb-true, ltb-true, eq-eqb}
use Rattle.words.proofs.ChoiceLaws.{and_true}
use Rattle.words.specs.Lists.{all, joined, up_from}
use Rattle.words.proofs.Pieces.{sized, all-pieces}
use Rattle.words.specs.Sections.{flat}
use Rattle.words.specs.Blocks.{block_size, print_size}
use Rattle.runs.specs.Changes.{Change}
use Rattle.runs.proofs.ListBytes.{lbn, print, block, Fitting}
use Rattle.runs.proofs.RunLaws.{marked-below, pairs-named}
use Rattle.runs.specs.Writer.{marked_pairs, marked_from, image_change, marked_changes, input_ok}

-- ---- what an accepted input is

pub record Input (L : ℕ) (marks prints image : List ℕ) : Type 0 where
  pub least : 1 ≤ L
  pub most : L ≤ 1024
  pub marks-long : length marks ≡ L
  pub prints-long : length prints ≡ L * print_size
  pub image-long : length image ≡ L * block_size
  pub tests : all (λ m. leb m 1) marks ≡ true

six_true : (a b c d e f : Bool) → (a && b && c && d && e && f) ≡ true
    → (a ≡ true) × (b ≡ true) × (c ≡ true) × (d ≡ true) × (e ≡ true) × (f ≡ true)
six_true a b c d e f h =
    let t = and_true (a && b && c && d && e) f h in
    let u = and_true (a && b && c && d) e t.0 in
    let v = and_true (a && b && c) d u.0 in
    let w = and_true (a && b) c v.0 in
    let x = and_true a b w.0 in
    (x.0, x.1, w.1, v.1, u.1, t.1)

pub input_facts : (L : ℕ) (marks prints image : List ℕ) → input_ok L marks prints image ≡ true → Input L marks prints image
unfolding input_ok
input_facts L marks prints image h =
    let t =
    six_true (leb 1 L) (leb L 1024) (eqb (length marks) L) (eqb (length prints) (L * print_size)) (eqb (length image) (L * block_size))
    (all (λ m. leb m 1) marks) h
    in
    record {
      least = leb-true 1 L t.0;
      most = leb-true L 1024 t.1;
      marks-long = eqb-true (length marks) L t.2;
      prints-long = eqb-true (length prints) (L * print_size) t.3;
      image-long = eqb-true (length image) (L * block_size) t.4;
      tests = t.5;
    }

-- ---- blocks of the image as changes

module _ (L : ℕ) (prints image : List ℕ) where
  print-long : (l : ℕ) → l < L → length prints ≡ L * print_size → length (image_change prints image l).print ≡ print_size
  unfolding image_change
  print-long l h e = simp (length-take, length-drop) (omega arith)

  block-long : (l : ℕ) → l < L → length image ≡ L * block_size → length (image_change prints image l).block ≡ block_size
  unfolding image_change
  block-long l h e = simp (length-take, length-drop) (omega arith)

  sized_images : (k : ℕ) (field : Change → List ℕ) → ((l : ℕ) → l < L → length (field (image_change prints image l)) ≡ k) → (ls : List ℕ)
      → all (λ l. ltb l L) ls ≡ true → sized k field (map (image_change prints image) ls) ≡ true
  sized_images k field long [] h = refl
  sized_images k field long (l ∷ ls) h =
      let t = and_true (ltb l L) (all (λ l. ltb l L) ls) h in
      rw (eq-eqb (length (field (image_change prints image l))) k (long l (ltb-true l L t.0))) (sized_images k field long ls t.1)

  -- the changes of all blocks hold all fingerprints and the whole image, in order
  pub all-prints : length prints ≡ L * print_size → flat print (map (image_change prints image) (up_from 0 L)) ≡ prints
  unfolding image_change
  all-prints e = ap joined (map-map print (image_change prints image) (up_from 0 L)) ∙ all-pieces print_size prints L e

  pub all_blocks : length image ≡ L * block_size → flat block (map (image_change prints image) (up_from 0 L)) ≡ image
  unfolding image_change
  all_blocks e = ap joined (map-map block (image_change prints image) (up_from 0 L)) ∙ all-pieces block_size image L e

-- ---- the marked ones

module _ (L : ℕ) (marks prints image : List ℕ) (g : Input L marks prints image) where
  below : all (λ l. ltb l L) (marked_from 0 marks) ≡ true
  below = marked-below marks 0 L (omega (arith, g.marks-long))

  pub marked_fitting : Fitting (marked_pairs marks) (marked_changes marks prints image)
  unfolding marked_changes image_change
  marked_fitting = record {
    named = map-map lbn (image_change prints image) (marked_from 0 marks) ∙ map-id (marked_from 0 marks) ∙ sym (pairs-named marks);
    prints = sized_images L prints image print_size print (λ l h. print-long L prints image l h g.prints-long) (marked_from 0 marks) below;
    blocks = sized_images L prints image block_size block (λ l h. block-long L prints image l h g.image-long) (marked_from 0 marks) below;
  }
