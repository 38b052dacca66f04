-- Sections that are stored one after the other, and a section at the front.
use Prim.Native.Nat.{ℕ, ◌+◌, ◌≤◌}
use mathlib.Core.Path.{◌≡◌, refl, ap, ap₂, ◌∙◌}
use mathlib.Core.List.{List, [], ◌∷◌, ◌++◌}
use native.Mathlib.Omega.{arith}
use lib.ListN.{length, set, take, drop, length-append}
use lib.Seq.{sets, take_at}
use Rattle.words.specs.Laying.{Stored}
use Rattle.words.proofs.LayingLaws.{sets_append, sets-front}

module _ {out : List ℕ} {at : ℕ} where
  -- an element more
  pub stored_one : (v : ℕ) → Stored out at (v ∷ []) (set out at v) (at + 1)
  stored_one v = record { list = refl; place = refl }

  -- a section behind another
  pub stored_append : {a b out₁ out₂ : List ℕ} {at₁ at₂ : ℕ} → Stored out at a out₁ at₁ → Stored out₁ at₁ b out₂ at₂
      → Stored out at (a ++ b) out₂ at₂
  stored_append {a} {b} s t = record {
    list = t.list ∙ ap₂ (λ (o : List ℕ) (k : ℕ). sets o k b) s.list s.place ∙ sets_append a b out at;
    place = omega (arith, s.place, t.place, length-append a b);
  }

-- what was stored at the front is what stands there
pub stored-front : {out section out' : List ℕ} {r : ℕ} → length section ≤ length out → Stored out 0 section out' r → take r out' ≡ section
stored-front {out} {section} {out'} {r} h s =
    ap (λ (l : List ℕ). take r l) (s.list ∙ sets-front section out h)
    ∙ take_at section (drop (length section) out) r (omega (arith, s.place))
