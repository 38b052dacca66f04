-- Laws of specs/Laying.antt.
-- Runs of stores one after the other, and what they leave.
use Prim.Native.Nat.{ℕ, suc, ◌+◌, ◌≤◌}
use mathlib.Core.Path.{◌≡◌, refl, sym, ap, ap₂, ◌∙◌}
use mathlib.Core.List.{List, [], ◌∷◌, ◌++◌}
use native.Mathlib.Nat.{add-zero, zero-add}
use native.Mathlib.Omega.{arith}
use lib.ListN.{length, drop, set, length-append}
use lib.Seq.{sets, sets-eq, length-sets}
use Rattle.words.specs.Laying.{Stored}

-- two runs of stores, the second from where the first ends
pub sets_append : (a b l : List ℕ) (i : ℕ) → sets (sets l i a) (i + length a) b ≡ sets l i (a ++ b)
sets_append [] b l i = rw add-zero
sets_append (v ∷ a) b l i =
    ap (λ (k : ℕ). sets (sets (set l i v) (suc i) a) k b) (omega arith) ∙ sets_append a b (set l i v) (suc i)

-- the same where the second's place is given as a number
pub sets-next : (a b l : List ℕ) (i j : ℕ) → j ≡ i + length a → sets (sets l i a) j b ≡ sets l i (a ++ b)
sets-next a b l i j e = ap (λ (k : ℕ). sets (sets l i a) k b) e ∙ sets_append a b l i

-- a section is being stored at `start`, where the list was `old`: `rest` is left, from `at` on
pub record Left (old : List ℕ) (start : ℕ) (section out : List ℕ) (at : ℕ) (rest : List ℕ) : Type 0 where
  pub same : sets out at rest ≡ sets old start section
  pub reach : at + length rest ≡ start + length section
  pub room : at + length rest ≤ length out

pub left-all : {out section : List ℕ} {at : ℕ} → at + length section ≤ length out → Left out at section out at section
left-all h = record { same = refl; reach = refl; room = h }

module _ {old section out rest : List ℕ} {start at : ℕ} (l : Left old start section out at rest) where
  -- the next part has room; once it is stored, what follows it is left
  pub left-room : (a b : List ℕ) → rest ≡ a ++ b → at + length a ≤ length out
  left-room a b e = omega (arith, l.room, ap length e ∙ length-append a b)

  pub left-more : {out' : List ℕ} {at' : ℕ} (a b : List ℕ) → rest ≡ a ++ b → Stored out at a out' at' → Left old start section out' at' b
  left-more a b e s =
      let n = ap length e ∙ length-append a b in
      record {
        same =
            ap₂ (λ (o : List ℕ) (k : ℕ). sets o k b) s.list s.place
            ∙ sets_append a b out at
            ∙ ap (λ (r : List ℕ). sets out at r) (sym e)
            ∙ l.same;
        reach = omega (arith, l.reach, n, s.place);
        room = omega (arith, l.room, n, s.place, ap length s.list ∙ length-sets out at a);
      }

  -- the last part is stored, or nothing was left
  pub left-last : {out' : List ℕ} {at' : ℕ} → Stored out at rest out' at' → Stored old start section out' at'
  left-last s = record { list = s.list ∙ l.same; place = s.place ∙ l.reach }

  pub left-none : rest ≡ [] → Stored old start section out at
  left-none e = record {
    list = ap (λ (r : List ℕ). sets out at r) (sym e) ∙ l.same;
    place = omega (arith, l.reach, ap length e);
  }

-- a run from the front
pub sets-front : (vs l : List ℕ) → length vs ≤ length l → sets l 0 vs ≡ vs ++ drop (length vs) l
sets-front vs l h = sets-eq vs l 0 (omega arith) ∙ ap (λ (k : ℕ). vs ++ drop k l) (zero-add (length vs))
