-- The plain store (document 01, "The plain store"): its state, and enrol, collect and read on it.
use Rattle.std.specs.Prelude.{ℕ, suc, ◌+◌, ◌-◌, Bool, true, false, not, ◌&&◌, ◌||◌, List, [], ◌∷◌, ◌++◌, map, length, get_or, set, replicate, leb, ltb, eqb}
use Rattle.words.specs.Blocks.{unmapped}
use Rattle.words.specs.Choice.{when◌then◌else◌}
use Rattle.words.specs.Lists.{some_of, those, last_of, up_from}
use Rattle.words.specs.Outcome.{Outcome, accepted, unless}
use Rattle.words.specs.Sections.{tab}
use Rattle.book.specs.Book.{volumes, Sizes}
use Rattle.model.specs.Days.{kept_by, kept, bad_day, bad_retention}

-- "N blocks each free or with fingerprint and bytes"
pub data Block : Type 0 where
  free : Block
  held : List ℕ → List ℕ → Block

-- what was taken of a volume: its "whole map", by a backup; or the volume itself, by a retirement (document 02, K6)
pub data What : Type 0 where
  image : List ℕ → What
  retirement : What

-- .. of which volume and on which day, and how many changes it had, which number 10 counts
pub record Taken : Type 0 where
  pub volume : ℕ
  pub day : ℕ
  pub what : What
  pub changes : ℕ

-- "for each enrolled volume a retention and a list" of (day, whole map): a retention for each volume, where 0 means not enrolled, and "all
-- volumes' maps and retirements in the order taken, each with its number of changes" (document 02, K10)
pub record Plain : Type 0 where
  pub sizes : Sizes
  pub day : ℕ
  pub cursor : ℕ
  pub blocks : List Block
  pub retentions : List ℕ
  pub taken : List Taken

-- "It starts with the format's sizes, day and cursor 0, all blocks free and no volume enrolled"
unfoldable pub start : Sizes → Plain
start z = record { sizes = z; day = 0; cursor = 0; blocks = replicate z.n free; retentions = replicate volumes 0; taken = [] }

-- a store with one thing changed
unfoldable pub at_day : ℕ → Plain → Plain
at_day t q = record { sizes = q.sizes; day = t; cursor = q.cursor; blocks = q.blocks; retentions = q.retentions; taken = q.taken }

unfoldable pub with_blocks : List Block → ℕ → Plain → Plain
with_blocks bs c q = record { sizes = q.sizes; day = q.day; cursor = c; blocks = bs; retentions = q.retentions; taken = q.taken }

unfoldable pub with_retention : ℕ → ℕ → Plain → Plain
with_retention v r q = record {
  sizes = q.sizes;
  day = q.day;
  cursor = q.cursor;
  blocks = q.blocks;
  retentions = set q.retentions v r;
  taken = q.taken;
}

unfoldable pub with_taken : Taken → Plain → Plain
with_taken i q = record {
  sizes = q.sizes;
  day = q.day;
  cursor = q.cursor;
  blocks = q.blocks;
  retentions = q.retentions;
  taken = q.taken ++ (i ∷ []);
}

-- ---- looking things up

abbrev pub retention_at : Plain → ℕ → ℕ
retention_at q v = get_or q.retentions v 0

abbrev pub is_enrolled : Plain → ℕ → Bool
is_enrolled q v = not (eqb (retention_at q v) 0)

-- the volume's own list
abbrev pub taken_of : ℕ → List Taken → List Taken
taken_of v is = those (λ (i : Taken). eqb i.volume v) is

abbrev pub days_of : List Taken → List ℕ
days_of is = map (λ (i : Taken). i.day) is

-- the maps of its backups: a retirement has none
abbrev pub map_with : What → List (List ℕ) → List (List ℕ)
map_with (image m) ms = m ∷ ms
map_with retirement ms = ms

abbrev pub maps_of : List Taken → List (List ℕ)
maps_of [] = []
maps_of (i ∷ is) = map_with i.what (maps_of is)

abbrev pub is_retirement : What → Bool
is_retirement (image m) = false
is_retirement retirement = true

abbrev pub is_retired : List Taken → Bool
is_retired is = some_of (λ (i : Taken). is_retirement i.what) is

-- 5 for a volume that has to be enrolled and not retired
abbrev pub no_living : Plain → ℕ → Bool
no_living q v = ltb 7 v || not (is_enrolled q v) || is_retired (taken_of v q.taken)

abbrev pub no_map : Sizes → List ℕ
no_map z = replicate z.l unmapped

-- the current map that it leaves: "its newest map stops being current" by a retirement (document 02, K6)
abbrev pub leaves : Sizes → What → List ℕ
leaves z (image m) = m
leaves z retirement = no_map z

-- "A volume's current map there is its newest one, all unmapped if none"
abbrev pub current : Sizes → List Taken → List ℕ
current z is = last_of (no_map z) (map (λ (i : Taken). leaves z i.what) is)

abbrev pub current_of : Plain → ℕ → List ℕ
current_of q v = current q.sizes (taken_of v q.taken)

unfoldable pub current_maps : Plain → List (List ℕ)
current_maps q = tab volumes (current_of q)

-- map k, from 1
abbrev pub map_at : Sizes → List Taken → ℕ → List ℕ
map_at z is k = get_or (maps_of is) (k - 1) (no_map z)

abbrev pub is_free : Block → Bool
is_free free = true
is_free (held f b) = false

abbrev pub bytes_of : Block → List ℕ
bytes_of free = []
bytes_of (held f b) = b

-- ---- enrol: "notes the retention with an empty list": a volume that isn't enrolled has none

unfoldable pub enrol_number : Plain → ℕ → ℕ → ℕ
enrol_number q v r =
    when ltb 7 v || is_enrolled q v then 5 else
    when bad_retention r then 6 else
    0

unfoldable pub enrol : Plain → ℕ → ℕ → Outcome Plain
enrol q v r = unless (enrol_number q v r) (accepted (with_retention v r q))

-- ---- collect: "marks each block in a current or kept map and frees the other held ones"

-- "A map names, or points to, a block when one of its cells is that PBN"
abbrev pub names : ℕ → List ℕ → Bool
names p m = some_of (eqb p) m

abbrev pub names_in : ℕ → What → Bool
names_in p (image m) = names p m
names_in p retirement = false

-- a backup of the volume's list that is kept at day D points to the block
abbrev pub kept_names : ℕ → ℕ → ℕ → List Taken → Bool
kept_names p r d [] = false
kept_names p r d (i ∷ is) = (kept_by i.day (days_of is) r d && names_in p i.what) || kept_names p r d is

-- a current map or a backup kept at day D points to the block
unfoldable pub marked : Plain → ℕ → ℕ → Bool
marked q d p =
    some_of (names p) (current_maps q) || some_of (λ v. kept_names p (retention_at q v) d (taken_of v q.taken)) (up_from 0 volumes)

-- the blocks after it, and how many it freed, where the first block has PBN p
abbrev pub swept : (ℕ → Bool) → ℕ → List Block → List Block
swept mark p [] = []
swept mark p (b ∷ bs) = (when mark p then b else free) ∷ swept mark (suc p) bs

abbrev pub swept_count : (ℕ → Bool) → ℕ → List Block → ℕ
swept_count mark p [] = 0
swept_count mark p (b ∷ bs) = (when is_free b || mark p then 0 else 1) + swept_count mark (suc p) bs

pub record PlainCollected : Type 0 where
  pub store : Plain
  pub freed : ℕ

-- "The T of an accepted call becomes its day"
unfoldable pub collected : Plain → ℕ → PlainCollected
collected q t = record {
  store = at_day t (with_blocks (swept (marked q t) 0 q.blocks) q.cursor q);
  freed = swept_count (marked q t) 0 q.blocks;
}

unfoldable pub collect_number : Plain → ℕ → ℕ
collect_number q t = when bad_day q.day t then 7 else 0

unfoldable pub collect : Plain → ℕ → Outcome PlainCollected
collect q t = unless (collect_number q t) (accepted (collected q t))

-- ---- read: "gives the bytes of the block that map k has at the LBN"

abbrev pub cell : Plain → ℕ → ℕ → ℕ → ℕ
cell q v k lbn = get_or (map_at q.sizes (taken_of v q.taken) k) lbn unmapped

unfoldable pub read_number : Plain → ℕ → ℕ → ℕ → ℕ
read_number q v k lbn =
    when ltb 7 v || not (is_enrolled q v) then 5 else
    when eqb k 0 || ltb (length (maps_of (taken_of v q.taken))) k then 15 else
    when not (kept (days_of (taken_of v q.taken)) (retention_at q v) q.day k) then 16 else
    when leb q.sizes.l lbn then 17 else
    when eqb (cell q v k lbn) unmapped then 18 else
    0

unfoldable pub read : Plain → ℕ → ℕ → ℕ → Outcome (List ℕ)
read q v k lbn = unless (read_number q v k lbn) (accepted (bytes_of (get_or q.blocks (cell q v k lbn) free)))
