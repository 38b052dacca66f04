-- The widths of counts and entries: what layouts with counts of the same width share.
use Prim.Native.Nat.{ℕ, ◌+◌, ◌*◌}
use mathlib.Core.Path.{◌≡◌, refl, ap}
use mathlib.Core.Bool.{Bool, true, false}
use mathlib.Core.List.{List, [], ◌∷◌}
use native.Mathlib.Omega.{arith}
use lib.Dec.{eqb}
use lib.ListN.{get_or}
use borrow.Author.Tests.{ne_eqb}
use Rattle.words.specs.Blocks.{print_size}
use Rattle.words.specs.Choice.{when◌then◌else◌}
use Rattle.words.specs.Numbers.{two, num}
use Rattle.words.specs.Sections.{tab}
use Rattle.book.specs.Book.{Sizes}
use Rattle.book.specs.Layout.{current, count_size, entry_size, entries_from, entry_offset, current_offset, count_bytes, entry_in}

pub entries-wide : (z : Sizes) (w : ℕ) → count_size z.layout ≡ w → z.n * entry_size z.layout ≡ z.n * (w + 19)
unfolding entry_size
entries-wide z w e = ap (λ (k : ℕ). z.n * (k + 19)) e

-- an entry of layout 1, and of any other
pub narrow-entry : (g : ℕ) → g ≡ 1 → entry_size g ≡ 20
unfolding entry_size
narrow-entry g e = rw e

pub wide-entry : (g : ℕ) → (g ≡ 1 → ⊥) → entry_size g ≡ 21
unfolding entry_size
wide-entry g n = rw (ne_eqb g 1 n)

pub wide-count : (g : ℕ) → (g ≡ 1 → ⊥) → count_size g ≡ 2
wide-count g n = rw (ne_eqb g 1 n)

pub narrow-offset : (p : ℕ) → entries_from + p * 20 ≡ entry_offset 1 p
unfolding entry_size
narrow-offset p = refl

pub offset-now : (p : ℕ) → current_offset p ≡ entry_offset current p
unfolding entry_size
offset-now p = refl

-- the width tells whether it is layout 1
narrow-same : (s t : Bool) → ◌≡◌ {A = ℕ} (when s then 1 else 2) (when t then 1 else 2) → s ≡ t
narrow-same true true e = refl
narrow-same true false e = absurd (omega arith)
narrow-same false true e = absurd (omega arith)
narrow-same false false e = refl

module _ (g h : ℕ) (e : count_size g ≡ count_size h) where
  pub offset-same : (p : ℕ) → entry_offset g p ≡ entry_offset h p
  unfolding entry_size
  offset-same p = ap (λ (k : ℕ). entries_from + p * (k + 19)) e

  pub count_same : (c : ℕ) → count_bytes g c ≡ count_bytes h c
  count_same c = ap (λ (t : Bool). when t then c ∷ [] else two c) (narrow-same (eqb g 1) (eqb h 1) e)

  pub entry-same : (b : List ℕ) (at : ℕ) → entry_in g b at ≡ entry_in h b at
  entry-same b at =
      let t = narrow-same (eqb g 1) (eqb h 1) e in
      λ i. record {
        count = when t i then get_or b at 0 else num b at;
        held = eqb (get_or b (at + (when t i then 1 else 2)) 0) 1;
        expiry = num b (at + ((when t i then 1 else 2) + 1));
        print = tab print_size (λ k. get_or b (at + ((when t i then 1 else 2) + 3) + k) 0);
      }
