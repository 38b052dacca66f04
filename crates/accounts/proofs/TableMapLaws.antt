-- Laws of specs/TableMaps.antt.
-- The table of all cells is the maps: replaying in it tests what audit's first sentence says.
use Prim.Native.Nat.{ℕ, ◌+◌, ◌*◌, ◌≤◌, ◌<◌}
use mathlib.Core.Path.{◌≡◌, refl, sym, ap, ◌∙◌}
use mathlib.Core.Bool.{Bool, true, false, ◌&&◌}
use mathlib.Core.List.{List, [], ◌∷◌}
use native.Mathlib.Omega.{arith}
use lib.Dec.{ltb, eqb}
use lib.ListN.{length, get_or, set, replicate, length-set, length-replicate, get_or-replicate}
use lib.Seq.{get_or-set_same, set-get_or, ext_get_or}
use borrow.Author.Tests.{eqb-true, eqb-false, eq-eqb, ne_eqb, ltb-true}
use Rattle.words.specs.Blocks.{unmapped}
use Rattle.words.specs.Choice.{when◌then◌else◌}
use Rattle.words.proofs.ChoiceLaws.{and_true, same_test}
use Rattle.words.specs.Lists.{each}
use Rattle.words.proofs.Each.{each_at, at_each, each_same, all-each}
use Rattle.words.specs.Lists.{all, same, up_from}
use Rattle.words.proofs.Same.{same_self, same_equal}
use Rattle.words.proofs.SetLaws.{get_d_set}
use Rattle.book.specs.Book.{volumes, Sizes, Rec, Book, Sized, cell_at}
use Rattle.book.specs.Form.{pbn_ok, rec_ok}
use Rattle.model.specs.Journal.{Backup, journal}
use Rattle.model.specs.Audit.{applied, replayed, befores_in, befores, no_maps, same_map, maps_sound}
use Rattle.replay.proofs.JournalRead.{backup_in}
use Rattle.accounts.proofs.MatchingLaws.{matching-same}
use Rattle.replay.specs.Table.{row_size, cells_after, cells_before, table_after, table_befores}
use Rattle.accounts.specs.TableMaps.{row_cell, row_matches, table_matches}

-- the cells of all volumes
abbrev pub table_size : ℕ
table_size = 8192

-- ---- the table a holds maps of l cells

pub record Table (l : ℕ) (a : List ℕ) (ms : List (List ℕ)) : Type 0 where
  pub long : length a ≡ table_size
  pub maps : length ms ≡ volumes
  pub rows : (v : ℕ) → v < volumes → length (get_or ms v []) ≡ l
  pub cells : (v k : ℕ) → v < volumes → k < l → get_or a (v * row_size + k) 0 ≡ cell_at ms v k

module _ (l : ℕ) (small : l ≤ row_size) where
  -- a store at one cell
  table-set : (a : List ℕ) (ms : List (List ℕ)) (v k p : ℕ) (m : List ℕ) → v < volumes → k < l → Table l a (set ms v m)
      → Table l (set a (v * row_size + k) p) (set ms v (set m k p))
  table-set a ms v k p m hv hk t =
      record {
        long = length-set a (v * row_size + k) p ∙ t.long;
        maps = length-set ms v (set m k p) ∙ sym (length-set ms v m) ∙ t.maps;
        rows = rows;
        cells = cells;
      }
    where
      count : v < length ms
      count = omega (arith, t.maps, length-set ms v m)

      row : length m ≡ l
      row = ap length (sym (get_or-set_same ms v m [] count)) ∙ t.rows v hv

      rows : (w : ℕ) → w < volumes → length (get_or (set ms v (set m k p)) w []) ≡ l
      rows w hw = rw (get_d_set ms v w (set m k p) [] count) (go (eqb w v) refl)
        where
          go : (s : Bool) → eqb w v ≡ s → length (when s then set m k p else get_or ms w []) ≡ l
          go true e = length-set m k p ∙ row
          go false e = rw (get_d_set ms v w m [] count, e) at (t.rows w hw)

      cells : (w j : ℕ) → w < volumes → j < l → get_or (set a (v * row_size + k) p) (w * row_size + j) 0 ≡ cell_at (set ms v (set m k p)) w j
      cells w j hw hj =
          rw (get_d_set a (v * row_size + k) (w * row_size + j) p 0 (omega (arith, t.long)), get_d_set ms v w (set m k p) [] count)
          (go (eqb w v) refl (eqb j k) refl)
        where
          other : (eqb w v ≡ false) → get_or a (w * row_size + j) 0 ≡ get_or (get_or ms w []) j unmapped
          other e = rw (get_d_set ms v w m [] count, e) at (t.cells w j hw hj)

          here : w ≡ v → get_or a (w * row_size + j) 0 ≡ get_or m j unmapped
          here e = rw (get_d_set ms v w m [] count, eq-eqb w v e) at (t.cells w j hw hj)

          go : (s : Bool) → eqb w v ≡ s → (u : Bool) → eqb j k ≡ u
              → (when eqb (w * row_size + j) (v * row_size + k) then p else get_or a (w * row_size + j) 0)
              ≡ get_or (when s then set m k p else get_or ms w []) j unmapped
          go true e true f =
              let ew = eqb-true w v e in let ej = eqb-true j k f in
              rw (eq-eqb (w * row_size + j) (v * row_size + k) (omega arith), get_d_set m k j p unmapped (omega (arith, row)), f)
          go true e false f =
              let ew = eqb-true w v e in let ej = eqb-false j k f in
              rw (
                ne_eqb (w * row_size + j) (v * row_size + k) (λ q. ej (omega arith)),
                get_d_set m k j p unmapped
                    (omega (arith, row)),
                f,
              ) (here ew)
          go false e u f =
              let ew = eqb-false w v e in
              rw (ne_eqb (w * row_size + j) (v * row_size + k) (λ q. ew (omega arith))) (other e)

  -- a volume's records, over whatever row it has
  replayed-row : (rs : List Rec) (z : Sizes) → z.l ≡ l → (a : List ℕ) (ms : List (List ℕ)) (v : ℕ) (m : List ℕ) → v < volumes
      → all (rec_ok z) rs ≡ true → Table l a (set ms v m)
      → (cells_before (v * row_size) a rs ≡ befores_in m rs) × Table l (cells_after (v * row_size) a rs) (set ms v (applied m rs))
  unfolding rec_ok
  replayed-row [] z e a ms v m hv ok t = (refl, t)
  replayed-row (r ∷ rs) z e a ms v m hv ok t =
      let w = and_true (rec_ok z r) (all (rec_ok z) rs) ok in
      let lbn = ltb r.lbn z.l in
      let k = (and_true lbn (pbn_ok z.n r.before) (and_true (lbn && pbn_ok z.n r.before) (pbn_ok z.n r.after) w.0).0).0 in
      let h : r.lbn < l = omega (arith, ltb-true r.lbn z.l k) in
      let count : v < length ms = omega (arith, t.maps, length-set ms v m) in
      let cell : get_or a (v * row_size + r.lbn) 0 ≡ get_or m r.lbn unmapped =
      t.cells v r.lbn hv h ∙ ap (λ (n : List ℕ). get_or n r.lbn unmapped) (get_or-set_same ms v m [] count)
      in
      let ih =
      replayed-row rs z e (set a (v * row_size + r.lbn) r.after) ms v (set m r.lbn r.after) hv w.1
      (table-set a ms v r.lbn r.after m hv h t)
      in
      (rw (cell, ih.0), ih.1)

  -- the whole journal
  pub replayed-table : (bs : List Backup) (z : Sizes) → z.l ≡ l → (a : List ℕ) (ms : List (List ℕ))
      → all (backup_in z) bs ≡ true → Table l a ms
      → (table_befores a bs ≡ befores ms bs) × Table l (table_after a bs) (replayed ms bs)
  unfolding backup_in
  replayed-table [] z e a ms ok t = (refl, t)
  replayed-table (b ∷ bs) z e a ms ok t =
      let w = and_true (backup_in z b) (all (backup_in z) bs) ok in
      let k = and_true (ltb b.volume volumes) (all (rec_ok z) b.records) w.0 in
      let t₀ : Table l a (set ms b.volume (get_or ms b.volume [])) = rw (set-get_or ms b.volume []) t in
      let r = replayed-row b.records z e a ms b.volume (get_or ms b.volume []) (ltb-true b.volume volumes k.0) k.1 t₀ in
      let ih =
      replayed-table bs z e (cells_after (b.volume * row_size) a b.records)
      (set ms b.volume (applied (get_or ms b.volume []) b.records)) w.1 r.1 in
      (rw (r.0, ih.0), ih.1)

  -- the table matches the maps exactly when they are the same
  same_row : (m n : List ℕ) (d : ℕ) → length m ≡ l → length n ≡ l → same m n ≡ each (λ k. eqb (get_or m k d) (get_or n k d)) 0 l
  same_row m n d em en =
      same_test (same m n) (each (λ k. eqb (get_or m k d) (get_or n k d)) 0 l)
      (λ e. at_each (λ k. eqb (get_or m k d) (get_or n k d)) 0 l (λ k _ _. rw (same_equal m n e) (eq-eqb (get_or n k d) (get_or n k d) refl)))
      (λ e. let q = ext_get_or d m n (em ∙ sym en)
      (λ k h. eqb-true (get_or m k d) (get_or n k d) (each_at (λ k. eqb (get_or m k d) (get_or n k d)) 0 l e k (omega arith) (omega arith))) in
      rw q (same_self n))

  pub table-matches : (ns ms : List (List ℕ)) (a : List ℕ) → ((v : ℕ) → v < volumes → length (get_or ns v []) ≡ l) → Table l a ms
      → table_matches ns l a ≡ all (same_map ns ms) (up_from 0 volumes)
  unfolding table_matches row_matches
  table-matches ns ms a rows t =
      each_same (row_matches ns l a) (same_map ns ms) 0 volumes
      (λ v _ h. matching-same (cell_at ns v) (row_cell a v) (cell_at ms v) l (λ k hk. t.cells v k h hk)
      ∙ sym (same_row (get_or ns v []) (get_or ms v []) unmapped (rows v h) (t.rows v h)))
      ∙ sym (all-each (same_map ns ms) volumes)

-- every cell unmapped
pub empty-table : (x : Book) → x.sizes.l ≤ row_size → Table x.sizes.l (replicate table_size unmapped) (no_maps x)
unfolding no_maps
empty-table x small =
    record {
      long = length-replicate table_size unmapped;
      maps = length-replicate volumes (replicate x.sizes.l unmapped);
      rows = λ v h. rw (get_or-replicate volumes v (replicate x.sizes.l unmapped) [] h) (length-replicate x.sizes.l unmapped);
      cells = λ v k h hk.
          rw (get_or-replicate volumes v (replicate x.sizes.l unmapped) [] h, get_or-replicate x.sizes.l k unmapped unmapped hk)
          (get_or-replicate table_size (v * row_size + k) unmapped 0 (omega arith));
    }

-- "the maps are the records replayed in order from all unmapped, each before being the cell that it replaces"
pub table-sound : (x : Book) → Sized x → x.sizes.l ≤ row_size → all (backup_in x.sizes) (journal x) ≡ true
    → (table_befores (replicate table_size unmapped) (journal x)
    && table_matches x.maps x.sizes.l (table_after (replicate table_size unmapped) (journal x)))
    ≡ maps_sound x
unfolding maps_sound
table-sound x s small ok =
    let r =
    replayed-table x.sizes.l small (journal x) x.sizes refl (replicate table_size unmapped) (no_maps x) ok
    (empty-table x small) in
    rw (
      r.0,
      table-matches x.sizes.l small x.maps (replayed (no_maps x) (journal x))
          (table_after (replicate table_size unmapped) (journal x)) s.cells r.1,
    )
