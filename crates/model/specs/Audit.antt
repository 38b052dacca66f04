-- Audit (document 01, "Audit says yes exactly when").
use Rattle.std.specs.Prelude.{ℕ, ◌+◌, max, Bool, true, not, ◌&&◌, ◌||◌, List, [], ◌∷◌, map, get_or, set, replicate, eqb}
use Rattle.words.specs.Blocks.{unmapped}
use Rattle.words.specs.Choice.{when◌then◌else◌}
use Rattle.words.specs.Lists.{all, some_of, those, count_of, joined, same, differ, up_from}
use Rattle.book.specs.Book.{volumes, Rec, Book, entry_at, retention_of}
use Rattle.model.specs.Days.{kept}
use Rattle.model.specs.Journal.{backup_count, Backup, since_of, journal, days}
use Rattle.model.specs.Read.{image}

-- ---- "the maps are the records replayed in order from all unmapped"

abbrev pub applied : List ℕ → List Rec → List ℕ
applied m [] = m
applied m (r ∷ rs) = applied (set m r.lbn r.after) rs

abbrev pub replayed : List (List ℕ) → List Backup → List (List ℕ)
replayed ms [] = ms
replayed ms (b ∷ bs) = replayed (set ms b.volume (applied (get_or ms b.volume []) b.records)) bs

-- "each before being the cell that it replaces"
abbrev pub befores_in : List ℕ → List Rec → Bool
befores_in m [] = true
befores_in m (r ∷ rs) = eqb (get_or m r.lbn unmapped) r.before && befores_in (set m r.lbn r.after) rs

abbrev pub befores : List (List ℕ) → List Backup → Bool
befores ms [] = true
befores ms (b ∷ bs) =
    befores_in (get_or ms b.volume []) b.records
    && befores (set ms b.volume (applied (get_or ms b.volume []) b.records)) bs

unfoldable pub no_maps : Book → List (List ℕ)
no_maps x = replicate volumes (replicate x.sizes.l unmapped)

abbrev pub same_map : List (List ℕ) → List (List ℕ) → ℕ → Bool
same_map ms ns v = same (get_or ms v []) (get_or ns v [])

unfoldable pub maps_sound : Book → Bool
maps_sound x = befores (no_maps x) (journal x) && all (same_map x.maps (replayed (no_maps x) (journal x))) (up_from 0 volumes)

-- ---- "each count is the number of map cells naming the block"

unfoldable pub count_sound : Book → ℕ → Bool
count_sound x p = eqb (entry_at x.entries p).count (count_of (eqb p) (joined x.maps))

-- ---- "each expiry is the largest slot day plus retention over records with that before, 0 if none"; "the audit's expiries take step 3's new
-- day for the slot day" (document 02, K4)

abbrev pub has_before : ℕ → List Rec → Bool
has_before p rs = some_of (λ r. eqb r.before p) rs

-- the last day for which backup b keeps what it replaced, where its volume keeps r days
abbrev pub due_of : ℕ → Backup → ℕ
due_of r b = since_of b.prev + r

abbrev pub until_in : Book → ℕ → List Backup → ℕ
until_in x p [] = 0
until_in x p (b ∷ bs) = max (when has_before p b.records then due_of (retention_of x b.volume) b else 0) (until_in x p bs)

unfoldable pub expiry_sound : Book → ℕ → Bool
expiry_sound x p = eqb (entry_at x.entries p).expiry (until_in x p (journal x))

-- ---- "held fingerprints differ"

unfoldable pub prints_sound : Book → Bool
prints_sound x = differ (map (λ e. e.print) (those (λ e. e.held) x.entries))

-- ---- "no current map and no kept backup names a free block"

-- a cell is unmapped or names a held block
unfoldable pub cell_sound : Book → ℕ → Bool
cell_sound x p = eqb p unmapped || (entry_at x.entries p).held

unfoldable pub current_sound : Book → Bool
current_sound x = all (all (cell_sound x)) x.maps

-- "for audit, which has only the book, when read's rule gives that PBN at some LBN"
unfoldable pub backup_sound : Book → ℕ → ℕ → Bool
backup_sound x v k =
    not (kept (days x v) (retention_of x v) x.day k)
    || all (λ lbn. cell_sound x (image x v k lbn)) (up_from 0 x.sizes.l)

unfoldable pub backups_sound : Book → Bool
backups_sound x = all (λ v. all (backup_sound x v) (up_from 1 (backup_count x v))) (up_from 0 volumes)

unfoldable pub audit : Book → Bool
audit x =
    maps_sound x
    && all (count_sound x) (up_from 0 x.sizes.n)
    && all (expiry_sound x) (up_from 0 x.sizes.n)
    && prints_sound x
    && current_sound x
    && backups_sound x
