-- The list's sections, and how long they are: "the bytes number 2 + 4E + 528n".
use Prim.Native.Nat.{ℕ, suc, ◌+◌, ◌*◌, ◌≤◌, ◌<◌}
use mathlib.Core.Path.{◌≡◌, refl, sym, ap₂}
use mathlib.Core.Bool.{Bool, true, false}
use mathlib.Core.List.{List, [], ◌∷◌, ◌++◌}
use native.Mathlib.Nat.{zero-add, suc-mul, zero-mul, le_trans, mul-le-mul_right}
use native.Mathlib.Omega.{arith}
use lib.Dec.{eqb}
use lib.ListN.{length, length-append}
use Rattle.words.specs.Choice.{when◌then◌else◌}
use Rattle.words.specs.Numbers.{two}
use Rattle.words.specs.Sections.{flat}
use Rattle.words.proofs.SectionLaws.{length-flat}
use Rattle.words.proofs.Flat.{flat_map}
use Rattle.words.proofs.Parts.{length_part}
use Rattle.runs.specs.Changes.{Change, pair_size}
use Rattle.words.specs.Blocks.{block_size, print_size}
use Rattle.runs.specs.Writer.{marked_pairs, marked_from, image_change, marked_changes, pair_bytes, list_bytes, marked_list}
use Rattle.marks.specs.Passes.{pairs_of}
use Rattle.writer.specs.Elements.{element, marked_elements}

pub length_pairs : (marks : List ℕ) → length (pairs_of marks) ≡ length (marked_pairs marks) * pair_size
unfolding pairs_of pair_bytes
length_pairs marks = length-flat pair_size pair_bytes (λ p. refl) (marked_pairs marks)

pub length-element : (size : ℕ) (b : List ℕ) (l n : ℕ) → l < n → n * size ≤ length b → length (element size b l) ≡ size
unfolding element
length-element size b l n h k = length_part b (l * size) size (le_trans (rw (← suc-mul) (mul-le-mul_right size h)) k)

-- the marked ones of elements of one size, where the marks are those from LBN i on
pub length-elements : (size : ℕ) (b : List ℕ) (ms : List ℕ) (i : ℕ) → (i + length ms) * size ≤ length b
    → length (marked_elements size b i ms) ≡ length (marked_from i ms) * size
unfolding marked_elements
length-elements size b [] i h = sym (zero-mul size)
length-elements size b (m ∷ ms) i h =
    let s : suc i + length ms ≡ i + suc (length ms) = omega arith in
    go (eqb m 1) (length-elements size b ms (suc i) (rw s h)) (length-element size b i (i + suc (length ms)) (omega arith) h)
  where
    go : (t : Bool) → length (marked_elements size b (suc i) ms) ≡ length (marked_from (suc i) ms) * size → length (element size b i) ≡ size
        → length (flat (element size b) (when t then i ∷ marked_from (suc i) ms else marked_from (suc i) ms))
        ≡ length (when t then i ∷ marked_from (suc i) ms else marked_from (suc i) ms) * size
    go true ih e = rw (length-append, suc-mul) (omega arith)
    go false ih e = ih

-- the changes' sections are those of the marked fingerprints and blocks
module _ (prints image : List ℕ) where
  pub list-sections : (marks : List ℕ) → marked_list marks prints image
      ≡ two (length (marked_pairs marks))
      ++ (pairs_of marks ++ (marked_elements print_size prints 0 marks ++ marked_elements block_size image 0 marks))
  unfolding marked_list list_bytes marked_changes image_change pairs_of element marked_elements
  list-sections marks =
      ap₂ (λ (p q : List ℕ). two (length (marked_pairs marks)) ++ (pairs_of marks ++ (p ++ q)))
      (flat_map (λ (c : Change). c.print) (image_change prints image) (marked_from 0 marks))
      (flat_map (λ (c : Change). c.block) (image_change prints image) (marked_from 0 marks))

  -- E pairs and n changes
  pub length-list : (marks : List ℕ) → length prints ≡ length marks * print_size → length image ≡ length marks * block_size
      → length (marked_list marks prints image) ≡ 2 + 4 * length (marked_pairs marks) + 528 * length (marked_from 0 marks)
  length-list marks hp hb =
      let p = length-elements print_size prints marks 0 (rw zero-add (omega arith)) in
      let b = length-elements block_size image marks 0 (rw zero-add (omega arith)) in
      rw (list-sections marks) (simp length-append (omega (arith, length_pairs marks)))
