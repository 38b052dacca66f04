-- The pass that writes the marked elements: one mark, one turn, and the end. What it has stored and what is left make the section whole.
use Prim.Native.Nat.{ℕ, suc, ◌+◌, ◌*◌, ◌-◌, ◌≤◌, ◌<◌}
use mathlib.Core.Path.{◌≡◌, refl, subst}
use mathlib.Core.Bool.{Bool, true, false}
use mathlib.Core.List.{List, [], ◌∷◌, ◌++◌}
use native.Mathlib.Nat.{suc-mul, mul-le-mul_right}
use native.Mathlib.Numerals.{add-one}
use native.Mathlib.Omega.{arith}
use lib.Dec.{eqb}
use borrow.Author.Tests.{eq-eqb, ne_eqb}
use lib.ListN.{length, get_or, take, drop, drop_of_length-le}
use lib.Seq.{drop-cons}
use Rattle.words.specs.Choice.{when◌then◌else◌}
use Rattle.words.specs.Sections.{flat}
use Rattle.words.specs.Laying.{Stored}
use Rattle.words.proofs.LayingLaws.{Left, left-room, left-more, left-none}
use Rattle.runs.specs.Writer.{marked_from}
use Rattle.writer.specs.Elements.{if_marked, element, marked_elements}

module _ (m : ℕ) (bytes : List ℕ) where
  pub marked-bytes : m ≡ 1 → if_marked m bytes ≡ bytes
  unfolding if_marked
  marked-bytes e = rw (eq-eqb m 1 e)

  pub other-bytes : (m ≡ 1 → ⊥) → if_marked m bytes ≡ []
  unfolding if_marked
  other-bytes n = rw (ne_eqb m 1 n)

module _ (size : ℕ) (b : List ℕ) where
  elements_cons : (i m : ℕ) (ms : List ℕ)
      → marked_elements size b i (m ∷ ms) ≡ if_marked m (element size b i) ++ marked_elements size b (suc i) ms
  unfolding marked_elements if_marked
  elements_cons i m ms = go (eqb m 1)
    where
      go : (t : Bool) → flat (element size b) (when t then i ∷ marked_from (suc i) ms else marked_from (suc i) ms)
          ≡ (when t then element size b i else []) ++ flat (element size b) (marked_from (suc i) ms)
      go true = refl
      go false = refl

  elements-more : (ms : List ℕ) (i : ℕ) → i < length ms
      → marked_elements size b i (drop i ms) ≡ if_marked (get_or ms i 0) (element size b i) ++ marked_elements size b (i + 1) (drop (i + 1) ms)
  elements-more ms i h = rw (drop-cons ms i 0 h, add-one i) (elements_cons i (get_or ms i 0) (drop (suc i) ms))

  elements-end : (ms : List ℕ) (i : ℕ) → length ms ≤ i → marked_elements size b i (drop i ms) ≡ []
  unfolding marked_elements
  elements-end ms i h = rw (drop_of_length-le ms {i = i} h)

-- element i lies within the bytes, and the next one starts where it ends
pub element-room : (size : ℕ) (b ms : List ℕ) (from i : ℕ) → length b ≡ length ms * size → i < length ms → from ≡ i * size
    → from + size ≤ length b
element-room size b ms from i e h f = rw (e, f, ← suc-mul) (mul-le-mul_right size h)

pub element-next : (size from i : ℕ) → from ≡ i * size → from + size ≡ (i + 1) * size
element-next size from i f = rw (f, add-one i, suc-mul)

-- element i is taken from where it starts
taken : (size : ℕ) (b : List ℕ) (from i : ℕ) → from ≡ i * size → take (from + size - from) (drop from b) ≡ element size b i
unfolding element
taken size b from i e =
    let n : from + size - from ≡ size = omega arith in
    rw (n, e)

module _ (size : ℕ) (b ms : List ℕ) (next from i : ℕ) {old section out : List ℕ} {start : ℕ} (f : from ≡ i * size)
    (l : Left old start section out next (marked_elements size b i (drop i ms))) where
  pub part_room : i < length ms → next + length (if_marked (get_or ms i 0) (take (from + size - from) (drop from b))) ≤ length out
  part_room h =
      rw (taken size b from i f)
      (left-room l (if_marked (get_or ms i 0) (element size b i)) (marked_elements size b (i + 1) (drop (i + 1) ms))
      (elements-more size b ms i h))

  pub part-stored : {out' : List ℕ} {next' : ℕ} → i < length ms
      → Stored out next (if_marked (get_or ms i 0) (take (from + size - from) (drop from b))) out' next'
      → Left old start section out' next' (marked_elements size b (i + 1) (drop (i + 1) ms))
  part-stored {out'} {next'} h s =
      left-more l (if_marked (get_or ms i 0) (element size b i)) (marked_elements size b (i + 1) (drop (i + 1) ms))
      (elements-more size b ms i h)
      (subst (λ (x : List ℕ). Stored out next (if_marked (get_or ms i 0) x) out' next') (taken size b from i f) s)

  pub all-stored : length ms ≤ i → Stored old start section out next
  all-stored h = left-none l (elements-end size b ms i h)
