-- Two fingerprints compared from the far end (document 02, K5): clients put the clinic's salt in the first bytes.
use Rattle.std.specs.Prelude.{ℕ, zero, suc, List, eqb, get_or}
use Rattle.words.specs.Blocks.{print_size}
use Rattle.words.specs.Choice.{when◌then◌else◌}

-- of the first i bytes, how many agree from the last one down, up to the first that differs
abbrev pub agreeing_in : ℕ → List ℕ → List ℕ → ℕ
agreeing_in zero a b = 0
agreeing_in (suc i) a b = when eqb (get_or a i 0) (get_or b i 0) then suc (agreeing_in i a b) else 0

-- "how many bytes agree from the far end up to the first that differs"
unfoldable pub agreeing : List ℕ → List ℕ → ℕ
agreeing a b = agreeing_in print_size a b
