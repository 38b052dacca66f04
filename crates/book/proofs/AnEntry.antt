-- An entry in both layouts, byte by byte, and the layouts that form takes. It stands first, so that a wrong definition is refused by what
-- it gives.
use Prim.Native.Nat.{ℕ}
use mathlib.Core.Path.{◌≡◌, refl}
use mathlib.Core.Bool.{true, false}
use mathlib.Core.List.{List, [], ◌∷◌, ◌++◌, map}
use Rattle.book.specs.Book.{Sizes, Entry}
use Rattle.book.specs.Form.{between, sizes_as}
use Rattle.book.specs.Layout.{entry_size, entry_bytes, entry_in}

abbrev print : List ℕ
print = 1 ∷ 2 ∷ 3 ∷ 4 ∷ 5 ∷ 6 ∷ 7 ∷ 8 ∷ 9 ∷ 10 ∷ 11 ∷ 12 ∷ 13 ∷ 14 ∷ 15 ∷ 16 ∷ []

-- held until day 258, and named so often
abbrev named : ℕ → Entry
named c = record { count = c; held = true; expiry = 258; print = print }

abbrev sizes : ℕ → Sizes
sizes g = record { layout = g; n = 1; l = 1; s = 1; j = 1 }

pub record Bytes : Type 0 where
  pub lengths : map entry_size (1 ∷ 2 ∷ 3 ∷ []) ≡ 20 ∷ 21 ∷ 21 ∷ []
  pub narrow : entry_bytes 1 (named 3) ≡ (3 ∷ 1 ∷ 2 ∷ 1 ∷ []) ++ print
  pub wide : entry_bytes 2 (named 515) ≡ (3 ∷ 2 ∷ 1 ∷ 2 ∷ 1 ∷ []) ++ print
  pub narrow_back : entry_in 1 ((3 ∷ 1 ∷ 2 ∷ 1 ∷ []) ++ print) 0 ≡ named 3
  pub wide_back : entry_in 2 ((3 ∷ 2 ∷ 1 ∷ 2 ∷ 1 ∷ []) ++ print) 0 ≡ named 515
  -- asked for layout 3
  pub layouts : map (λ g. sizes_as 3 (sizes g)) (1 ∷ 2 ∷ 3 ∷ 4 ∷ []) ≡ false ∷ false ∷ true ∷ false ∷ []

pub an_entry : Bytes
unfolding entry_size sizes_as between
an_entry = record { lengths = refl; narrow = refl; wide = refl; narrow_back = refl; wide_back = refl; layouts = refl }
