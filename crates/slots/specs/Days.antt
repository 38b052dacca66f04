-- The rule of days in one pass: with each volume's last day + 1 (0 for none), which volumes are retired, and the last
-- slot's day, no slot is looked at twice.
use Rattle.std.specs.Prelude.{ℕ, ◌+◌, Bool, true, false, not, ◌&&◌, List, [], ◌∷◌, leb, get_or, set, replicate}
use Rattle.book.specs.Book.{volumes, Slot}

-- "their days never fall, rise strictly within a volume", and "no slot of the volume follows" a retire slot (document 02,
-- K6): a slot's day is not below prev, the last slot's, and above its volume's last, and its volume is not gone
unfoldable pub day_ok : List ℕ → List Bool → ℕ → Slot → Bool
day_ok lasts gone prev t =
    leb prev t.day && (leb (get_or lasts t.volume 0) t.day && not (get_or gone t.volume false))

abbrev pub days_from : List ℕ → List Bool → ℕ → List Slot → Bool
days_from lasts gone prev [] = true
days_from lasts gone prev (t ∷ ts) =
    day_ok lasts gone prev t
    && days_from (set lasts t.volume (t.day + 1)) (set gone t.volume t.retire) t.day ts

-- no volume has a slot yet, and none is retired
abbrev pub no_lasts : List ℕ
no_lasts = replicate volumes 0

abbrev pub none_gone : List Bool
none_gone = replicate volumes false
