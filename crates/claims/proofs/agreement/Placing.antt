-- Steps 1 and 2 of a change do the same on our side and on the plain store.
use Prim.Native.Nat.{ℕ, suc, ◌<◌}
use mathlib.Core.Path.{◌≡◌, refl, sym, ap, ap₂, ◌∙◌}
use mathlib.Core.Logic.{◌≢◌}
use mathlib.Core.Bool.{Bool, true, false}
use mathlib.Core.List.{List}
use mathlib.Core.Option.{Option, none, some}
use native.Mathlib.Omega.{arith}
use lib.ListN.{length, get_or, length-set}
use lib.Seq.{get_or-set_same, get_or-set_other}
use Rattle.words.specs.Blocks.{block_size}
use Rattle.words.specs.Choice.{when◌then◌else◌}
use Rattle.words.specs.Lists.{same}
use Rattle.words.proofs.SetLaws.{get_or-set-kept}
use Rattle.words.specs.Outcome.{Outcome, refused, accepted}
use Rattle.runs.specs.Changes.{Change}
use Rattle.book.specs.Book.{Entry, Book, entry_at, free_entry}
use Rattle.book.specs.Next.{with_cursor, with_entries, held_as}
use Rattle.model.specs.Pool.{pool_size, block_at}
use Rattle.model.specs.Audit.{prints_sound}
use Rattle.model.specs.Backup.{Work, Placed, find_held, find_free, take_block, place_free, place_held, place}
use Rattle.claims.proofs.claims.FoundBlocks.{held-lowest, free-next}
use Rattle.model.specs.Plain.{Block, free, bytes_of}
use Rattle.model.specs.PlainBackup
use Rattle.model.specs.PlainBackup.{PlainWork, PlainPlaced}
use Rattle.model.specs.Sides.{blocks_in}
use Rattle.claims.specs.Claims.{is_damage}
use Rattle.claims.proofs.agreement.BlocksIn.{length-blocks_in, held_bytes}
use Rattle.claims.proofs.agreement.BlockLaws.{found-same, free-same, length_with, taken-same}
use Rattle.claims.proofs.agreement.Prints.{prints-held}

-- ---- where the two sides stand alike

pub record Alike (w : Work) (u : PlainWork) : Type 0 where
  pub blocks : u.blocks ≡ blocks_in w.book.entries w.pool
  pub cursor : u.cursor ≡ w.book.cursor
  pub taken : u.taken ≡ w.taken
  pub touched : u.touched ≡ w.touched
  pub entries : length w.book.entries ≡ w.book.sizes.n
  pub pool : length w.pool ≡ pool_size w.book.sizes.n

-- books that differ in entries and cursor at most
pub record Aside (x y : Book) : Type 0 where
  pub sizes : y.sizes ≡ x.sizes
  pub day : y.day ≡ x.day
  pub retentions : y.retentions ≡ x.retentions
  pub maps : y.maps ≡ x.maps
  pub slots : y.slots ≡ x.slots
  pub records : y.records ≡ x.records

-- a change placed at p: the block is held then, and no count, no expiry and no other entry has moved
pub record PlacedAt (w : Work) (u : PlainWork) (p : ℕ) (w' : Work) (u' : PlainWork) : Type 0 where
  pub bound : p < length w.book.entries
  pub alike : Alike w' u'
  pub aside : Aside w.book w'.book
  pub copy : u'.copy ≡ u.copy
  pub holds : (entry_at w'.book.entries p).held ≡ true
  pub counts : (q : ℕ) → (entry_at w'.book.entries q).count ≡ (entry_at w.book.entries q).count
  pub expiries : (q : ℕ) → (entry_at w'.book.entries q).expiry ≡ (entry_at w.book.entries q).expiry
  pub others : (q : ℕ) → q ≢ p → entry_at w'.book.entries q ≡ entry_at w.book.entries q
  pub prints : prints_sound w.book ≡ true → prints_sound w'.book ≡ true

-- steps 1 and 2 on both sides: refused by the same number, or placed at the same block
pub data BothPlaced (w : Work) (u : PlainWork) : Outcome Placed → Outcome PlainPlaced → Type 0 where
  stopped : (k : ℕ) → is_damage k ≡ false → BothPlaced w u (refused k) (refused k)
  placed : (p : ℕ) (w' : Work) (u' : PlainWork) → PlacedAt w u p w' u'
      → BothPlaced w u (accepted (record { pbn = p; work = w' })) (accepted (record { pbn = p; work = u' }))

-- ---- step 2

module _ (c : Change) (w : Work) (u : PlainWork) (l : length c.block ≡ block_size) (a : Alike w u) where
  abbrev es : List Entry
  es = w.book.entries

  module _ (p : ℕ) (h : p < length w.book.entries) where
    take-alike : Alike (take_block c p w) (PlainBackup.take_block c p u)
    unfolding take_block PlainBackup.take_block with_cursor with_entries
    take-alike = record {
      blocks = rw a.blocks (sym (taken-same es w.pool c.print c.block p h (rw a.entries a.pool) l));
      cursor = rw (a.blocks, length-blocks_in es w.pool, a.entries);
      taken = ap suc a.taken;
      touched = a.touched;
      entries = length-set es p _ ∙ a.entries;
      pool = length_with w.pool c.block p w.book.sizes.n l (omega (arith, a.entries)) a.pool;
    }

    take-placed : (entry_at w.book.entries p).held ≡ false → find_held w.book.entries c.print ≡ none
        → PlacedAt w u p (take_block c p w) (PlainBackup.take_block c p u)
    unfolding take_block PlainBackup.take_block with_cursor with_entries held_as
    take-placed f n = record {
      bound = h;
      alike = take-alike;
      aside = record { sizes = refl; day = refl; retentions = refl; maps = refl; slots = refl; records = refl };
      copy = refl;
      holds = ap (λ (e : Entry). e.held) (get_or-set_same es p (held_as c.print (entry_at es p)) free_entry h);
      counts = get_or-set-kept (λ (e : Entry). e.count) es p (held_as c.print (entry_at es p)) free_entry refl;
      expiries = get_or-set-kept (λ (e : Entry). e.expiry) es p (held_as c.print (entry_at es p)) free_entry refl;
      others = λ q z. get_or-set_other es p q (held_as c.print (entry_at es p)) free_entry z;
      prints = prints-held w.book _ c.print p h f n refl;
    }

  free-placed : find_held w.book.entries c.print ≡ none → (o : Option ℕ) → find_free w.book.entries w.book.cursor ≡ o
      → BothPlaced w u (place_free c w o) (PlainBackup.place_free c u o)
  unfolding place_free PlainBackup.place_free
  free-placed n none e = stopped 12 refl
  free-placed n (some p) e =
      let f = free-next es w.book.cursor p e in
      placed p (take_block c p w) (PlainBackup.take_block c p u) (take-placed p f.inside f.free n)

  -- ---- step 1

  found-placed : (p : ℕ) → find_held w.book.entries c.print ≡ some p → PlacedAt w u p w u
  found-placed p e = record {
    bound = (held-lowest es c.print p e).inside;
    alike = a;
    aside = record { sizes = refl; day = refl; retentions = refl; maps = refl; slots = refl; records = refl };
    copy = refl;
    holds = (held-lowest es c.print p e).held;
    counts = λ q. refl;
    expiries = λ q. refl;
    others = λ q z. refl;
    prints = λ d. d;
  }

  held-placed : (o : Option ℕ) → find_held w.book.entries c.print ≡ o → BothPlaced w u (place_held c w o) (PlainBackup.place_held c u o)
  unfolding place_held PlainBackup.place_held
  held-placed none e =
      let s : PlainBackup.find_free u.blocks u.cursor ≡ find_free es w.book.cursor =
      ap₂ (λ (bs : List Block) (k : ℕ). PlainBackup.find_free bs k) a.blocks a.cursor
      ∙ sym (free-same es w.pool w.book.cursor) in
      rw s (free-placed e _ refl)
  held-placed (some p) e =
      let f = held-lowest es c.print p e in
      let s : bytes_of (get_or u.blocks p free) ≡ block_at w.pool p =
      ap (λ (bs : List Block). bytes_of (get_or bs p free)) a.blocks ∙ held_bytes es w.pool p f.inside f.held in
      rw s (go (same (block_at w.pool p) c.block))
    where
      go : (t : Bool) → BothPlaced w u
          (when t then accepted (record { pbn = p; work = w }) else refused 11)
          (when t then accepted (record { pbn = p; work = u }) else refused 11)
      go true = placed p w u (found-placed p e)
      go false = stopped 11 refl

  pub place-both : BothPlaced w u (place c w) (PlainBackup.place c u)
  unfolding place PlainBackup.place
  place-both =
      let s : PlainBackup.find_held u.blocks c.print ≡ find_held es c.print =
      ap (λ (bs : List Block). PlainBackup.find_held bs c.print) a.blocks ∙ sym (found-same es w.pool c.print) in
      rw s (held-placed _ refl)
