-- What a book holds (document 01, "The book"), with no byte in it.
use Rattle.std.specs.Prelude.{ℕ, ◌≤◌, ◌<◌, ◌≡◌, Bool, false, not, List, [], length, get_or, replicate}
use Rattle.words.specs.Blocks.{print_size, unmapped}

-- volumes 0 to 7
abbrev pub volumes : ℕ
volumes = 8

-- the header's first five numbers: "layout; N pool blocks; L logical blocks a volume; S backup slots; J journal slots". The layout is
-- one of them, since with the sizes it says where everything stands
pub record Sizes : Type 0 where
  pub layout : ℕ
  pub n : ℕ
  pub l : ℕ
  pub s : ℕ
  pub j : ℕ

-- "block entries: count, state (0 free, 1 held), expiry, fingerprint"
pub record Entry : Type 0 where
  pub count : ℕ
  pub held : Bool
  pub expiry : ℕ
  pub print : List ℕ

-- a used backup slot: "volume, day, then the pair first record and number of records". "Retiring a volume .. takes a backup slot whose second
-- byte is 1" (document 02, K6)
pub record Slot : Type 0 where
  pub volume : ℕ
  pub retire : Bool
  pub day : ℕ
  pub first : ℕ
  pub number : ℕ

-- a used record: "LBN, before PBN, after PBN"
pub record Rec : Type 0 where
  pub lbn : ℕ
  pub before : ℕ
  pub after : ℕ

-- the book; slots and records are the used ones, so that B is length slots and U is length records
pub record Book : Type 0 where
  pub sizes : Sizes
  pub day : ℕ
  pub cursor : ℕ
  pub retentions : List ℕ
  pub entries : List Entry
  pub maps : List (List ℕ)
  pub slots : List Slot
  pub records : List Rec

-- what stands where nothing was written
unfoldable pub no_print : List ℕ
no_print = replicate print_size 0

unfoldable pub free_entry : Entry
free_entry = record { count = 0; held = false; expiry = 0; print = no_print }

unfoldable pub no_slot : Slot
no_slot = record { volume = 0; retire = false; day = 0; first = 0; number = 0 }

unfoldable pub no_rec : Rec
no_rec = record { lbn = 0; before = 0; after = 0 }

-- looking things up
abbrev pub entry_at : List Entry → ℕ → Entry
entry_at es p = get_or es p free_entry

abbrev pub is_free : Entry → Bool
is_free e = not e.held

abbrev pub cell_at : List (List ℕ) → ℕ → ℕ → ℕ
cell_at ms v l = get_or (get_or ms v []) l unmapped

abbrev pub slot_at : List Slot → ℕ → Slot
slot_at ts q = get_or ts q no_slot

abbrev pub rec_at : List Rec → ℕ → Rec
rec_at rs q = get_or rs q no_rec

abbrev pub retention_of : Book → ℕ → ℕ
retention_of x v = get_or x.retentions v 0

-- the lists are as long as the sizes say
pub record Sized (x : Book) : Type 0 where
  pub retentions : length x.retentions ≡ volumes
  pub entries : length x.entries ≡ x.sizes.n
  pub prints : (p : ℕ) → p < x.sizes.n → length (entry_at x.entries p).print ≡ print_size
  pub maps : length x.maps ≡ volumes
  pub cells : (v : ℕ) → v < volumes → length (get_or x.maps v []) ≡ x.sizes.l
  pub slots : length x.slots ≤ x.sizes.s
  pub records : length x.records ≤ x.sizes.j
