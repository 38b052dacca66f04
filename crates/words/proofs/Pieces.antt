-- Parts past an append's seam, and pieces of one size where only the list's own elements are known to have it.
use mathlib.Core.Path.{◌≡◌, sym, ap, ◌∙◌}
use mathlib.Core.Bool.{Bool, true}
use mathlib.Core.List.{List, [], ◌∷◌, ◌++◌, map, append_assoc}
use Prim.Native.Nat.{ℕ, zero, suc, ◌+◌, ◌*◌, ◌<◌}
use native.Mathlib.Nat.{suc-mul, zero-mul, add_comm, not-suc-le-zero, le_of_suc-le-suc}
use lib.Dec.{eqb}
use lib.ListN.{length, get_or, take, length-append}
use lib.Seq.{take_at, drop-append-add, take-length}
use borrow.Author.Tests.{eqb-true}
use Rattle.words.proofs.ChoiceLaws.{and_true}
use Rattle.words.specs.Lists.{all, joined, up_from}
use Rattle.words.specs.Sections.{flat, part}
use Rattle.words.proofs.SectionLaws.{part-add}

pub part-past : (xs ys : List ℕ) (n o m : ℕ) → length xs ≡ n → part (xs ++ ys) (n + o) m ≡ part ys o m
part-past xs ys n o m e = rw (← e) (ap (λ (r : List ℕ). take m r) (drop-append-add xs ys o))

module _ {A : Type 0} (k : ℕ) (enc : A → List ℕ) where
  -- each of the list's pieces has k elements
  abbrev pub sized : List A → Bool
  sized xs = all (λ x. eqb (length (enc x)) k) xs

  pub length-sized : (xs : List A) → sized xs ≡ true → length (flat enc xs) ≡ length xs * k
  length-sized [] h = sym (zero-mul k)
  length-sized (x ∷ xs) h =
      let t = and_true (eqb (length (enc x)) k) (sized xs) h in
      rw (length-append, eqb-true (length (enc x)) k t.0, length-sized xs t.1, suc-mul) (add_comm k (length xs * k))

  -- piece p, whatever follows the pieces
  pub part-sized : (xs : List A) (r : List ℕ) (p : ℕ) (d : A) → sized xs ≡ true → p < length xs
      → part (flat enc xs ++ r) (p * k) k ≡ enc (get_or xs p d)
  part-sized [] r p d h b = absurd (not-suc-le-zero b)
  part-sized (x ∷ xs) r zero d h b =
      let t = and_true (eqb (length (enc x)) k) (sized xs) h in
      rw (zero-mul, append_assoc) (take_at (enc x) (flat enc xs ++ r) k (eqb-true (length (enc x)) k t.0))
  part-sized (x ∷ xs) r (suc p) d h b =
      let t = and_true (eqb (length (enc x)) k) (sized xs) h in
      rw (suc-mul, add_comm (p * k) k, append_assoc)
      (part-past (enc x) (flat enc xs ++ r) k (p * k) k (eqb-true (length (enc x)) k t.0)
      ∙ part-sized xs r p d t.1 (le_of_suc-le-suc b))

-- pieces cut from a list one after the other are that stretch of it; all of them are the list
pub joined-pieces : (k : ℕ) (b : List ℕ) (n i : ℕ) → joined (map (λ l. part b (l * k) k) (up_from i n)) ≡ part b (i * k) (n * k)
joined-pieces k b zero i = rw zero-mul
joined-pieces k b (suc n) i =
    let next : suc i * k ≡ i * k + k = suc-mul i k in
    rw (joined-pieces k b n (suc i), next, suc-mul n k, add_comm (n * k) k) (sym (part-add b (i * k) k (n * k)))

pub all-pieces : (k : ℕ) (b : List ℕ) (n : ℕ) → length b ≡ n * k → joined (map (λ l. part b (l * k) k) (up_from 0 n)) ≡ b
all-pieces k b n e = joined-pieces k b n 0 ∙ rw (zero-mul, ← e) (take-length b)
