-- A book between two changes of a backup: what every change keeps, and what steps 1 and 2 leave.
use Prim.Native.Nat.{ℕ, suc, ◌+◌, ◌≤◌, ◌<◌}
use mathlib.Core.Path.{◌≡◌, refl, ap, subst, ◌∙◌}
use mathlib.Core.Bool.{Bool, true, false}
use mathlib.Core.Option.{Option, none, some}
use native.Mathlib.Nat.{mod-lt}
use native.Mathlib.Omega.{arith}
use lib.ListN.{length, take, drop, length-set}
use lib.Seq.{get_or-set_same}
use Rattle.words.proofs.Accepted.{refused_not}
use Rattle.words.specs.Choice.{when◌then◌else◌}
use Rattle.words.specs.Lists.{all, same}
use Rattle.words.specs.Outcome.{refused, accepted}
use Rattle.words.proofs.Places.{all_set}
use Rattle.runs.specs.Changes.{Change}
use Rattle.book.specs.Book.{volumes, Entry, Book, free_entry, entry_at}
use Rattle.book.specs.Form.{rec_ok, after_ok}
use Rattle.book.specs.Next.{with_cursor, with_entries, held_as}
use Rattle.model.specs.Pool.{pool_size, block_at}
use Rattle.model.specs.Backup.{Work, Placed, find_held, find_free, take_block, place_free, place_held, place}
use Rattle.claims.proofs.agreement.BlockLaws.{length_with}
use Rattle.claims.proofs.form.ChangesFit.{ChangeFit}
use Rattle.claims.proofs.form.EntriesFit.{entry-fit, fit-expiry, held-fit}
use Rattle.claims.proofs.form.FitParts.{entry_fit, map_fit}
use Rattle.claims.proofs.claims.FoundBlocks.{held-lowest, free-next}

-- k changes were made from the book x
pub record WorkFit (x : Book) (k : ℕ) (w : Work) : Type 0 where
  pub few : x.sizes.n ≤ 4096
  pub sizes : w.book.sizes ≡ x.sizes
  pub retentions : w.book.retentions ≡ x.retentions
  pub slots : w.book.slots ≡ x.slots
  pub cursor : w.book.cursor < x.sizes.n
  pub entry_count : length w.book.entries ≡ x.sizes.n
  pub entries : all entry_fit w.book.entries ≡ true
  pub map_count : length w.book.maps ≡ volumes
  pub maps : all (map_fit x.sizes) w.book.maps ≡ true
  pub record_count : length w.book.records ≡ length x.records + k
  pub records : all (rec_ok x.sizes) w.book.records ≡ true
  -- those that were there, and behind them those of a backup
  pub given : take (length x.records) w.book.records ≡ x.records
  pub afters : all (after_ok false) (drop (length x.records) w.book.records) ≡ true
  pub pool : length w.pool ≡ pool_size x.sizes.n

-- .. and the block of the next change was found or taken
pub record PlacedFit (x : Book) (k : ℕ) (d : Placed) : Type 0 where
  pub work : WorkFit x k d.work
  pub inside : d.pbn < x.sizes.n
  pub holds : (entry_at d.work.book.entries d.pbn).held ≡ true

module _ (x : Book) (k : ℕ) (c : Change) (good : ChangeFit x.sizes.l c) (w : Work) (f : WorkFit x k w) where
  -- the entry that a taken block has
  abbrev taken : ℕ → Entry
  taken p = held_as c.print (entry_at w.book.entries p)

  taken-fit : (p : ℕ) → entry_fit (taken p) ≡ true
  unfolding held_as
  taken-fit p =
      held-fit (taken p) (fit-expiry (entry_at w.book.entries p) (entry-fit w.book.entries p f.entries)) good.print refl

  take-fit : (p : ℕ) → p < x.sizes.n → PlacedFit x k (record { pbn = p; work = take_block c p w })
  unfolding take_block with_cursor with_entries held_as
  take-fit p h =
      let n : w.book.sizes.n ≡ x.sizes.n = ap (λ z. z.n) f.sizes in
      record {
        work = record {
          few = f.few;
          sizes = f.sizes;
          retentions = f.retentions;
          slots = f.slots;
          cursor = rw n (mod-lt (suc p) (omega arith));
          entry_count = length-set w.book.entries p (taken p) ∙ f.entry_count;
          entries = all_set entry_fit w.book.entries p (taken p) f.entries (taken-fit p);
          map_count = f.map_count;
          maps = f.maps;
          record_count = f.record_count;
          records = f.records;
          given = f.given;
          afters = f.afters;
          pool = length_with w.pool c.block p x.sizes.n good.block h f.pool;
        };
        inside = h;
        holds = ap (λ (e : Entry). e.held) (get_or-set_same w.book.entries p (taken p) free_entry (rw f.entry_count h));
      }

  -- ---- step 2, and step 1 before it

  free-placed : (o : Option ℕ) (d : Placed) → find_free w.book.entries w.book.cursor ≡ o
      → place_free c w o ≡ accepted d → PlacedFit x k d
  unfolding place_free
  free-placed none d e q = absurd (refused_not 12 d q)
  free-placed (some p) d e q =
      let b = (free-next w.book.entries w.book.cursor p e).inside in
      subst (PlacedFit x k) (cc) (take-fit p (rw f.entry_count at b))

  held-placed : (o : Option ℕ) (d : Placed) → find_held w.book.entries c.print ≡ o → place_held c w o ≡ accepted d → PlacedFit x k d
  unfolding place_held
  held-placed none d e q = free-placed (find_free w.book.entries w.book.cursor) d refl q
  held-placed (some p) d e q = go (same (block_at w.pool p) c.block) q
    where
      go : (t : Bool) → (when t then accepted (record { pbn = p; work = w }) else refused 11) ≡ accepted d → PlacedFit x k d
      go true q =
          let b = held-lowest w.book.entries c.print p e in
          subst (PlacedFit x k) (cc) (record { work = f; inside = rw f.entry_count at b.inside; holds = b.held })
      go false q = absurd (refused_not 11 d q)

  pub place-fit : (d : Placed) → place c w ≡ accepted d → PlacedFit x k d
  unfolding place
  place-fit d q = held-placed (find_held w.book.entries c.print) d refl q
