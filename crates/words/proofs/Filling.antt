-- Runs of one value, and stores that lay runs and numbers down.
use mathlib.Core.Path.{◌≡◌, refl, sym, ap, ◌∙◌}
use mathlib.Core.List.{List, [], ◌∷◌, ◌++◌}
use Prim.Native.Nat.{ℕ, zero, suc, ◌+◌, ◌*◌}
use native.Mathlib.Nat.{zero-mul, suc-mul, add_comm, add-zero}
use native.Mathlib.Numerals.{add-one, towards_suc}
use native.Mathlib.Omega.{arith}
use lib.ListN.{length, set, drop, length-drop, replicate, length-replicate, replicate-append-replicate}
use lib.Seq.{sets}
use Rattle.words.specs.Numbers.{two, put}
use Rattle.words.specs.Sections.{flat, fit}
use Rattle.words.proofs.SectionLaws.{sets-snoc, sets_append_right, sets-whole}
use Rattle.words.proofs.LayingLaws.{sets-front}

-- a number written is its two bytes stored
pub put-sets : (b : List ℕ) (at v : ℕ) → put b at v ≡ sets b at (two v)
put-sets b at v = rw add-one

-- where code wrote v, and that is c
pub put_as : (b : List ℕ) (at c : ℕ) {b' : List ℕ} {v : ℕ} → b' ≡ put b at v → v ≡ c → b' ≡ sets b at (two c)
put_as b at c e f = e ∙ rw f (put-sets b at c)

-- three numbers, one after the other
pub puts-three : (b : List ℕ) (at x y z : ℕ) {b₁ b₂ b₃ : List ℕ} → b₁ ≡ put b at x → b₂ ≡ put b₁ (at + 2) y → b₃ ≡ put b₂ (at + 4) z
    → b₃ ≡ sets b at (flat two (x ∷ y ∷ z ∷ []))
puts-three b at x y z e₁ e₂ e₃ = rw (e₃, e₂, e₁) (simp towards_suc)

module _ {A : Type 0} where
  pub replicate-snoc : (n : ℕ) (a : A) → replicate n a ++ a ∷ [] ≡ replicate (n + 1) a
  replicate-snoc n a = replicate-append-replicate n 1 a

  pub fit_none : (d : A) (n : ℕ) → fit d n [] ≡ replicate n d
  fit_none d zero = refl
  fit_none d (suc n) = ap (λ (r : List A). d ∷ r) (fit_none d n)

  -- n elements, each a run of k
  pub flat-run : (n k v : ℕ) (enc : A → List ℕ) (x : A) → enc x ≡ replicate k v → flat enc (replicate n x) ≡ replicate (n * k) v
  flat-run zero k v enc x e = rw zero-mul
  flat-run (suc n) k v enc x e = rw (e, flat-run n k v enc x e, suc-mul, add_comm (n * k) k) (replicate-append-replicate k (n * k) v)

-- a turn of the loop that fills with v from `at`
pub fill_more : (d : List ℕ) (at i v : ℕ) → set (sets d at (replicate i v)) (at + i) v ≡ sets d at (replicate (i + 1) v)
fill_more d at i v =
    sym (ap (λ (vs : List ℕ). sets d at vs) (sym (replicate-snoc i v))
    ∙ sets-snoc (replicate i v) d at v
    ∙ ap (λ (k : ℕ). set (sets d at (replicate i v)) (at + k) v) (length-replicate i v))

-- stores that lay lists down one after the other, from the start
after : (v u r : List ℕ) → sets (u ++ r) (length u) v ≡ u ++ sets r 0 v
after v u r = rw (← add-zero (length u)) (sets_append_right v u r 0)

sets-three : (u v w b : List ℕ) → length b ≡ length u + (length v + length w)
    → sets (sets (sets b 0 u) (length u) v) (length u + length v) w ≡ u ++ (v ++ w)
sets-three u v w b e =
    let r = drop (length u) b in
    let r' = drop (length v) r in
    let n : length r ≡ length v + length w = length-drop (length u) b ∙ omega arith in
    let n' : length r' ≡ length w = length-drop (length v) r ∙ omega arith in
    ap (λ (l : List ℕ). sets (sets l (length u) v) (length u + length v) w) (sets-front u b (omega arith))
    ∙ ap (λ (l : List ℕ). sets l (length u + length v) w) (after v u r ∙ ap (λ (l : List ℕ). u ++ l) (sets-front v r (omega arith)))
    ∙ sets_append_right w u (v ++ r') (length v)
    ∙ ap (λ (l : List ℕ). u ++ l) (after w v r' ∙ ap (λ (l : List ℕ). v ++ l) (sets-whole w r' (sym n')))

-- three runs that fill a list, from what each store left
pub runs-three : (b : List ℕ) (l m n u v w : ℕ) {b₁ b₂ b₃ : List ℕ} → length b ≡ l + (m + n)
    → b₁ ≡ sets b 0 (replicate l u) → b₂ ≡ sets b₁ l (replicate m v) → b₃ ≡ sets b₂ (l + m) (replicate n w)
    → b₃ ≡ replicate l u ++ (replicate m v ++ replicate n w)
runs-three b l m n u v w h e₁ e₂ e₃ =
    rw (e₃, e₂, e₁)
    (simp length-replicate at
    (sets-three (replicate l u) (replicate m v) (replicate n w) b (simp length-replicate h)))
