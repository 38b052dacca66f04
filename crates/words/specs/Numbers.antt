-- Numbers of two bytes, little-endian (document 01, head).
use Rattle.std.specs.Prelude.{ℕ, ◌+◌, ◌*◌, ◌/◌, ◌%◌, List, [], ◌∷◌, get_or, set}

-- v as two bytes, the number that stands at a place, and v written there
abbrev pub two : ℕ → List ℕ
two v = v % 256 ∷ v / 256 ∷ []

abbrev pub num : List ℕ → ℕ → ℕ
num b at = get_or b at 0 + get_or b (at + 1) 0 * 256

abbrev pub put : List ℕ → ℕ → ℕ → List ℕ
put b at v = set (set b at (v % 256)) (at + 1) (v / 256)
