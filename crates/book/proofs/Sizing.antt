-- A book stays well sized with one thing changed, and a fresh one is.
use mathlib.Core.Path.{◌≡◌, refl, ap, ◌∙◌}
use mathlib.Core.List.{List, [], ◌∷◌}
use Prim.Native.Nat.{ℕ, zero, suc, ◌<◌}
use native.Mathlib.Omega.{arith}
use lib.ListN.{length, get_or, set, replicate, length-set, length-append, length-replicate, get_or-replicate}
use Rattle.words.specs.Blocks.{print_size, unmapped}
use Rattle.book.specs.Book.{volumes, Sizes, Entry, Slot, Rec, Book, no_print, free_entry, entry_at, Sized}
use Rattle.book.specs.Next.{with_day, with_cursor, with_retention, with_entries, with_maps, with_slot, with_record, count_as, expiry_as}
use Rattle.book.specs.Next.{held_as, made_free, with_entry, with_cell, fresh}

-- ---- no change but a format touches the sizes

module _ (x : Book) where
  pub sizes-day : (d : ℕ) → (with_day d x).sizes ≡ x.sizes
  unfolding with_day
  sizes-day d = refl

  pub sizes-cursor : (k : ℕ) → (with_cursor k x).sizes ≡ x.sizes
  unfolding with_cursor
  sizes-cursor k = refl

  pub sizes-retention : (v r : ℕ) → (with_retention v r x).sizes ≡ x.sizes
  unfolding with_retention
  sizes-retention v r = refl

  pub sizes-entries : (es : List Entry) → (with_entries es x).sizes ≡ x.sizes
  unfolding with_entries
  sizes-entries es = refl

  pub sizes-maps : (ms : List (List ℕ)) → (with_maps ms x).sizes ≡ x.sizes
  unfolding with_maps
  sizes-maps ms = refl

  pub sizes-slot : (t : Slot) → (with_slot t x).sizes ≡ x.sizes
  unfolding with_slot
  sizes-slot t = refl

  pub sizes-record : (r : Rec) → (with_record r x).sizes ≡ x.sizes
  unfolding with_record
  sizes-record r = refl

-- ---- well sized again

-- what holds of each element and of y holds of each after a store of y
kept : {A : Type 0} (P : A → Type 0) (xs : List A) (p q : ℕ) (y d : A) → P y → P (get_or xs q d) → P (get_or (set xs p y) q d)
kept P [] p q y d hy h = h
kept P (x ∷ xs) zero zero y d hy h = hy
kept P (x ∷ xs) zero (suc q) y d hy h = h
kept P (x ∷ xs) (suc p) zero y d hy h = h
kept P (x ∷ xs) (suc p) (suc q) y d hy h = kept P xs p q y d hy h

module _ (x : Book) (s : Sized x) where
  pub sized-day : (d : ℕ) → Sized (with_day d x)
  unfolding with_day
  sized-day d =
      record {
        retentions = s.retentions;
        entries = s.entries;
        prints = s.prints;
        maps = s.maps;
        cells = s.cells;
        slots = s.slots;
        records = s.records;
      }

  pub sized-cursor : (k : ℕ) → Sized (with_cursor k x)
  unfolding with_cursor
  sized-cursor k =
      record {
        retentions = s.retentions;
        entries = s.entries;
        prints = s.prints;
        maps = s.maps;
        cells = s.cells;
        slots = s.slots;
        records = s.records;
      }

  pub sized-retention : (v r : ℕ) → Sized (with_retention v r x)
  unfolding with_retention
  sized-retention v r =
      record {
        retentions = length-set x.retentions v r ∙ s.retentions;
        entries = s.entries;
        prints = s.prints;
        maps = s.maps;
        cells = s.cells;
        slots = s.slots;
        records = s.records;
      }

  -- one law for every writer of an entry
  pub sized-entry : (f : Entry → Entry) (p : ℕ) → length (f (entry_at x.entries p)).print ≡ print_size → Sized (with_entry f p x)
  unfolding with_entries
  sized-entry f p h =
      let y = f (entry_at x.entries p) in
      record {
        retentions = s.retentions;
        entries = length-set x.entries p y ∙ s.entries;
        prints = λ q hq. kept (λ (e : Entry). length e.print ≡ print_size) x.entries p q y free_entry h (s.prints q hq);
        maps = s.maps;
        cells = s.cells;
        slots = s.slots;
        records = s.records;
      }

  pub sized-count : (p c : ℕ) → p < x.sizes.n → Sized (with_entry (count_as c) p x)
  unfolding count_as
  sized-count p c hp = sized-entry (count_as c) p (s.prints p hp)

  pub sized-expiry : (p d : ℕ) → p < x.sizes.n → Sized (with_entry (expiry_as d) p x)
  unfolding expiry_as
  sized-expiry p d hp = sized-entry (expiry_as d) p (s.prints p hp)

  pub sized-held : (p : ℕ) (f : List ℕ) → length f ≡ print_size → Sized (with_entry (held_as f) p x)
  unfolding held_as
  sized-held p f h = sized-entry (held_as f) p h

  pub sized-freed : (p : ℕ) → Sized (with_entry made_free p x)
  unfolding made_free no_print
  sized-freed p = sized-entry made_free p refl

  pub sized-cell : (v l p : ℕ) → v < volumes → Sized (with_cell v l p x)
  unfolding with_maps
  sized-cell v l p hv =
      let row = set (get_or x.maps v []) l p in
      let long : length row ≡ x.sizes.l = length-set (get_or x.maps v []) l p ∙ s.cells v hv in
      record {
        retentions = s.retentions;
        entries = s.entries;
        prints = s.prints;
        maps = length-set x.maps v row ∙ s.maps;
        cells = λ u hu. kept (λ (m : List ℕ). length m ≡ x.sizes.l) x.maps v u row [] long (s.cells u hu);
        slots = s.slots;
        records = s.records;
      }

  pub sized-slot : (t : Slot) → length x.slots < x.sizes.s → Sized (with_slot t x)
  unfolding with_slot
  sized-slot t h =
      record {
        retentions = s.retentions;
        entries = s.entries;
        prints = s.prints;
        maps = s.maps;
        cells = s.cells;
        slots = rw length-append (omega arith);
        records = s.records;
      }

  pub sized-record : (r : Rec) → length x.records < x.sizes.j → Sized (with_record r x)
  unfolding with_record
  sized-record r h =
      record {
        retentions = s.retentions;
        entries = s.entries;
        prints = s.prints;
        maps = s.maps;
        cells = s.cells;
        slots = s.slots;
        records = rw length-append (omega arith);
      }

pub sized_fresh : (z : Sizes) → Sized (fresh z)
unfolding fresh free_entry no_print
sized_fresh z =
    record {
      retentions = refl;
      entries = length-replicate z.n free_entry;
      prints = λ p hp. ap (λ (e : Entry). length e.print) (get_or-replicate z.n p free_entry free_entry hp);
      maps = refl;
      cells = λ v hv. ap length (get_or-replicate volumes v (replicate z.l unmapped) [] hv) ∙ length-replicate z.l unmapped;
      slots = omega arith;
      records = omega arith;
    }
