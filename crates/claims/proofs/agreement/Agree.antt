-- Where our book and pool and the plain store stand alike (the abstraction relation): what every call keeps.
use Prim.Native.Nat.{ℕ, ◌<◌}
use mathlib.Core.Path.{◌≡◌}
use mathlib.Core.Bool.{Bool, true, false, ◌&&◌}
use mathlib.Core.List.{List, [], ◌∷◌}
use lib.ListN.{length, get_or, set}
use lib.Dec.{leb, eqb}
use Rattle.words.specs.Choice.{when◌then◌else◌}
use Rattle.words.specs.Lists.{some_of, count_of, joined}
use Rattle.book.specs.Book.{Book, entry_at, retention_of, Sized}
use Rattle.book.specs.Form.{sizes_ok, book_ok}
use Rattle.model.specs.Pool.{pool_size}
use Rattle.model.specs.Journal.{Backup, journal}
use Rattle.model.specs.Audit.{applied, replayed, no_maps, has_before, due_of, until_in, prints_sound}
use Rattle.model.specs.Plain.{image, retirement, Taken, Plain}
use Rattle.model.specs.Sides.{blocks_in}
use Rattle.claims.proofs.kept.Sound.{SoundAll, Days, AllRise, EmptiedAll}

-- a book whose bytes are in form
pub record Fit (x : Book) : Type 0 where
  pub sized : Sized x
  pub sizes : sizes_ok x.sizes ≡ true
  pub form : book_ok x ≡ true

-- what the plain store takes by a slot, from the volume's map before it
abbrev pub taken_by : List ℕ → Backup → Taken
taken_by m b = record {
  volume = b.volume;
  day = b.day;
  what = when b.retire then retirement else image (applied m b.records);
  changes = length b.records;
}

-- .. by all slots of a journal, from all volumes' maps before them
abbrev pub taken_from : List (List ℕ) → List Backup → List Taken
taken_from ms [] = []
taken_from ms (b ∷ bs) =
    taken_by (get_or ms b.volume []) b ∷ taken_from (set ms b.volume (applied (get_or ms b.volume []) b.records)) bs

-- .. by one volume's slots, from its map before them
abbrev pub taken_in : List ℕ → List Backup → List Taken
taken_in m [] = []
taken_in m (b ∷ bs) = taken_by m b ∷ taken_in (applied m b.records) bs

-- the same, were each of them a backup
abbrev pub images_of : List ℕ → List Backup → List Taken
images_of m [] = []
images_of m (b ∷ bs) =
    record { volume = b.volume; day = b.day; what = image (applied m b.records); changes = length b.records }
    ∷ images_of (applied m b.records) bs

-- the maps whose cells the counts count
abbrev pub counted_maps : Book → List (List ℕ)
counted_maps x = x.maps

-- how many of their cells name block p
unfoldable pub named : Book → ℕ → ℕ
named x p = count_of (eqb p) (joined (counted_maps x))

-- some backup that reaches day D has a record with before p
unfoldable pub reaches : Book → ℕ → ℕ → Bool
reaches x d p = some_of (λ (b : Backup). leb d (due_of (retention_of x b.volume) b) && has_before p b.records) (journal x)

pub record Agree (x : Book) (pool : List ℕ) (q : Plain) : Type 0 where
  pub fit : Fit x
  pub pool_long : length pool ≡ pool_size x.sizes.n
  -- the two sides
  pub sizes : q.sizes ≡ x.sizes
  pub day : q.day ≡ x.day
  pub cursor : q.cursor ≡ x.cursor
  pub blocks : q.blocks ≡ blocks_in x.entries pool
  pub retentions : q.retentions ≡ x.retentions
  pub taken : q.taken ≡ taken_from (no_maps x) (journal x)
  -- the journal
  pub maps : x.maps ≡ replayed (no_maps x) (journal x)
  pub sound : SoundAll (no_maps x) (journal x)
  pub days : Days 0 (journal x) x.day
  pub rising : AllRise (journal x)
  -- a retired volume's map is all unmapped
  pub emptied : EmptiedAll x.sizes.l (no_maps x) (journal x)
  -- the entries
  pub counts : (p : ℕ) → p < x.sizes.n → (entry_at x.entries p).count ≡ named x p
  pub expiries : (p : ℕ) → p < x.sizes.n → (entry_at x.entries p).expiry ≡ until_in x p (journal x)
  -- on day 0 a held block that no map names was a before: collect on day 0 needs it
  pub used : x.day ≡ 0 → (p : ℕ) → p < x.sizes.n → (entry_at x.entries p).held ≡ true → named x p ≡ 0 → reaches x 0 p ≡ true
  -- a free block is in no current map, and no record that still counts has it as its before
  pub free : (p : ℕ) → p < x.sizes.n → (entry_at x.entries p).held ≡ false → (named x p ≡ 0) × (reaches x x.day p ≡ false)
  pub prints : prints_sound x ≡ true
