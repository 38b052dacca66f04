-- What days decide (document 02, K4, "kept"; document 01, number 7): on the box and on the plain store alike.
use Rattle.std.specs.Prelude.{ℕ, zero, suc, ◌+◌, Bool, true, not, ◌&&◌, ◌||◌, List, [], ◌∷◌, length, get_or, drop, leb, ltb, eqb}
use Rattle.words.specs.Lists.{last_of}

-- "if it is the newest or its own day plus retention is ≥ D" (document 02, K4): by its own day and the days of the volume's slots after it. A
-- retire slot is one of these: once the volume is retired "the newest is no longer exempt" (document 02, K6)
abbrev pub kept_by : ℕ → List ℕ → ℕ → ℕ → Bool
kept_by t [] r d = true
kept_by t (u ∷ us) r d = leb d (t + r)

-- "backup k is kept at day D", by the days of the volume's slots and its retention. Said of k from 1 to the newest: any other number is
-- refused by 15 first, so that what this says of it counts nowhere
unfoldable pub kept : List ℕ → ℕ → ℕ → ℕ → Bool
kept ds r d zero = true
kept ds r d (suc k) = kept_by (get_or ds k 0) (drop (suc k) ds) r d

-- number 7: "The day is above 60,000, below the header's"
unfoldable pub bad_day : ℕ → ℕ → Bool
bad_day now t = ltb 60000 t || ltb t now

-- .. "or for backup not above the volume's last backup"
unfoldable pub not_after : List ℕ → ℕ → Bool
not_after ds t = not (eqb (length ds) 0) && leb t (last_of 0 ds)

-- number 6: "The retention is 0 or above 5,000"
unfoldable pub bad_retention : ℕ → Bool
bad_retention r = eqb r 0 || ltb 5000 r
