-- Laws of `line`: its length, and how it is stored.
use Prim.Native.Nat.{ℕ, ◌+◌, ◌^◌, ◌≤◌, ◌<◌, suc}
use mathlib.Core.Path.{◌≡◌, refl}
use mathlib.Core.List.{List, [], ◌∷◌, ◌++◌}
use native.Mathlib.Omega.{arith}
use lib.ListN.{length, set, length-append}
use lib.Seq.{sets}
use Rattle.words.specs.Laying.{Stored}
use Rattle.pages.specs.Tally.{decimal, line}
use Rattle.pages.proofs.Decimal.{decimal-length}
use Rattle.words.proofs.SectionsLaid.{stored_one, stored_append}

pub line-length : (word : List ℕ) (n : ℕ) → length (line word n) ≡ length word + (length (decimal n) + 2)
unfolding line
line-length word n = omega (arith, length-append word (32 ∷ (decimal n ++ 10 ∷ [])), length-append (decimal n) (10 ∷ []))

-- a line of a number with at most k + 1 digits
pub line-fits : (word : List ℕ) (k n : ℕ) → n < 10 ^ suc k → length (line word n) ≤ length word + (k + 3)
line-fits word k n h = omega (arith, line-length word n, decimal-length k n h)

-- the word, the blank, the number and the newline one after the other
pub line-stored : {out out₁ out₂ : List ℕ} {at end : ℕ} (word : List ℕ) (n : ℕ) → out₁ ≡ sets out at word
    → Stored (set out₁ (at + length word) 32) (at + length word + 1) (decimal n) out₂ end
    → Stored out at (line word n) (set out₂ end 10) (end + 1)
unfolding line
line-stored word n e s =
    stored_append {a = word} {b = 32 ∷ (decimal n ++ 10 ∷ [])} (record { list = e; place = refl })
    (stored_append {a = 32 ∷ []} {b = decimal n ++ 10 ∷ []} (stored_one 32) (stored_append s (stored_one 10)))
