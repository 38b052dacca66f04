-- The stores of an answer: a tag, numbers, a block.
use Prim.Native.Nat.{ℕ, ◌+◌, ◌-◌, ◌≤◌}
use mathlib.Core.Path.{◌≡◌, refl, ap, ◌∙◌}
use mathlib.Core.List.{List, [], ◌∷◌, ◌++◌}
use native.Mathlib.Numerals.{towards_suc}
use native.Mathlib.Omega.{arith}
use lib.ListN.{length, set, take, drop}
use lib.Seq.{sets}
use Rattle.words.specs.Laying.{Stored}
use Rattle.words.proofs.Lending.{lent}
use Rattle.words.specs.Numbers.{two, put}
use Rattle.words.proofs.Parts.{length_part}
use Rattle.words.specs.Sections.{flat}

pub answered : (out : List ℕ) (to tag v : ℕ) {o₁ : List ℕ} → o₁ ≡ put (set out to tag) (to + 1) v → Stored out to (tag ∷ two v) o₁ (to + 3)
answered out to tag v e = record { list = rw e (simp towards_suc); place = refl }

pub answered-three : (out : List ℕ) (to tag x y z : ℕ) {o₁ : List ℕ} → o₁ ≡ sets (set out to tag) (to + 1) (flat two (x ∷ y ∷ z ∷ []))
    → Stored out to (tag ∷ two x ++ (two y ++ two z)) o₁ (to + 7)
answered-three out to tag x y z e = record { list = rw e (simp towards_suc); place = refl }

pub answered-block : (out : List ℕ) (to tag : ℕ) (bl : List ℕ) {o₂ : List ℕ} → length bl ≡ 512 → o₂ ≡ sets (set out to tag) (to + 1) bl
    → Stored out to (tag ∷ bl) o₂ (to + 1 + 512)
answered-block out to tag bl n e = record { list = rw e (simp towards_suc); place = omega arith }

-- a part as it is lent
pub lent_length : (list : List ℕ) (p n : ℕ) → p + n ≤ length list → length (take (p + n - p) (drop p list)) ≡ n
lent_length list p n h = ap length (lent list p n) ∙ length_part list p n h
