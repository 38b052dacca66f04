-- What the closed cases are written with: letters, change lists of letters, fresh books.
use Prim.Native.Nat.{ℕ}
use mathlib.Core.List.{List, [], ◌∷◌, ◌++◌, map}
use lib.ListN.{length, replicate}
use Rattle.words.specs.Blocks.{block_size, print_size}
use Rattle.words.specs.Lists.{joined}
use Rattle.words.specs.Numbers.{two}
use Rattle.book.specs.Book.{Sizes}
use Rattle.book.specs.Layout.{bytes}
use Rattle.book.specs.Next.{fresh}
use Rattle.model.specs.Pool.{pool_size}
use Rattle.model.specs.Sides.{Ours}

-- "A, B, .. are sixteen bytes of that letter over blocks of it"
abbrev pub A : ℕ
A = 65

abbrev pub B : ℕ
B = 66

abbrev pub C : ℕ
C = 67

abbrev pub D : ℕ
D = 68

abbrev pub E : ℕ
E = 69

abbrev pub F : ℕ
F = 70

abbrev pub block_of : ℕ → List ℕ
block_of a = replicate block_size a

abbrev pub print_of : ℕ → List ℕ
print_of a = replicate print_size a

-- the list of one pair that starts at the LBN: fingerprints of the first letters over blocks of the second
unfoldable pub over : ℕ → List ℕ → List ℕ → List ℕ
over first prints blocks = two 1 ++ two first ++ two (length prints) ++ joined (map print_of prints) ++ joined (map block_of blocks)

unfoldable pub list : ℕ → List ℕ → List ℕ
list first letters = over first letters letters

-- the list of no change
unfoldable pub empty : List ℕ
empty = two 0

abbrev pub four : {T : Type 0} → T → T → T → T → List T
four a b c d = a ∷ b ∷ c ∷ d ∷ []

-- a fresh book, and a pool of bytes that are in no case
abbrev pub box : Sizes → Ours
box z = record { book = bytes (fresh z); pool = replicate (pool_size z.n) 255 }
