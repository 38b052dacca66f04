-- When a journal is sound over the maps that it starts from: what audit asks of it, as facts.
use Prim.Native.Nat.{ℕ, suc, ◌≤◌, ◌<◌}
use mathlib.Core.Path.{◌≡◌}
use mathlib.Core.Bool.{true}
use mathlib.Core.List.{List, [], ◌∷◌}
use lib.ListN.{length, get_or, set, replicate}
use Rattle.words.specs.Blocks.{unmapped}
use Rattle.book.specs.Book.{Rec}
use Rattle.model.specs.Journal.{Backup}
use Rattle.model.specs.Audit.{applied}

-- each before is the cell that it replaces
unfoldable pub Sound : List ℕ → List Rec → Type 0
Sound m [] = Unit {0}
Sound m (r ∷ rs) = (r.lbn < length m) × (r.before ≡ get_or m r.lbn unmapped) × Sound (set m r.lbn r.after) rs

unfoldable pub SoundAll : List (List ℕ) → List Backup → Type 0
SoundAll ms [] = Unit {0}
SoundAll ms (b ∷ bs) =
    (b.volume < length ms)
    × Sound (get_or ms b.volume []) b.records
    × SoundAll (set ms b.volume (applied (get_or ms b.volume []) b.records)) bs

-- days never fall, from d to e
unfoldable pub Days : ℕ → List Backup → ℕ → Type 0
Days d [] e = d ≤ e
Days d (b ∷ bs) e = (d ≤ b.day) × Days b.day bs e

-- the LBNs of each backup rise
unfoldable pub Rising : ℕ → List Rec → Type 0
Rising a [] = Unit {0}
Rising a (r ∷ rs) = (a ≤ r.lbn) × Rising (suc r.lbn) rs

unfoldable pub AllRise : List Backup → Type 0
AllRise [] = Unit {0}
AllRise (b ∷ bs) = Rising 0 b.records × AllRise bs

-- a retirement leaves each of its volume's l cells unmapped
unfoldable pub EmptiedAll : ℕ → List (List ℕ) → List Backup → Type 0
EmptiedAll l ms [] = Unit {0}
EmptiedAll l ms (b ∷ bs) =
    (b.retire ≡ true → applied (get_or ms b.volume []) b.records ≡ replicate l unmapped)
    × EmptiedAll l (set ms b.volume (applied (get_or ms b.volume []) b.records)) bs

-- the same of one volume's slots
unfoldable pub Emptied : ℕ → List ℕ → List Backup → Type 0
Emptied l m [] = Unit {0}
Emptied l m (b ∷ bs) = (b.retire ≡ true → applied m b.records ≡ replicate l unmapped) × Emptied l (applied m b.records) bs
