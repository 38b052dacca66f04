-- A retirement, cell after cell: what its records say so far of map and entries. Nothing refuses it: a block that a cell names has a count.
use Prim.Native.Nat.{ℕ, zero, suc, ◌+◌, ◌<◌, max}
use mathlib.Core.Path.{◌≡◌, refl, sym, ap, ◌∙◌, subst}
use mathlib.Core.Logic.{◌≢◌, ◌⊎◌, inl, inr}
use mathlib.Core.Bool.{Bool, true, false, not, ◌||◌}
use mathlib.Core.List.{List, [], ◌∷◌, ◌++◌, append_assoc, append-nil}
use native.Mathlib.Omega.{arith}
use lib.Dec.{ltb, eqb}
use lib.ListN.{length, get_or, set, length-set, length-append, replicate, length-replicate}
use lib.Seq.{get_or-set_same, get_or-set_other, set-set, set-get_or, ext_get_or}
use borrow.Author.Tests.{eqb-true, eqb-false, eq-eqb, ne_eqb, lt-ltb, ltb-true}
use Rattle.words.specs.Blocks.{unmapped}
use Rattle.words.specs.Choice.{when◌then◌else◌}
use Rattle.words.proofs.Appends.{all_append, count_of_append}
use Rattle.words.proofs.ChoiceLaws.{or_no}
use Rattle.words.proofs.Counting.{count_set}
use Rattle.words.proofs.Places.{all_weaker, get_or_replicated}
use Rattle.words.proofs.Tests.{eqb_swap}
use Rattle.words.specs.Lists.{all, count_of, joined, bit, differ, up_from}
use Rattle.words.specs.Outcome.{accepted}
use Rattle.book.specs.Book.{Entry, Rec, Book, entry_at, cell_at, volumes, Sized}
use Rattle.book.specs.Form.{after_ok}
use Rattle.book.specs.Next.{cells_with, with_entries, with_maps, with_record, count_as, expiry_as}
use Rattle.model.specs.Audit.{applied, has_before, prints_sound}
use Rattle.model.specs.Backup.{lowered, lower}
use Rattle.model.specs.Retire.{mapped_cells, clear_number, cleared, clear_cell, clear_cells}
use Rattle.model.specs.Sides.{blocks_in}
use Rattle.claims.proofs.agreement.Agree.{named}
use Rattle.claims.proofs.agreement.Level.{names_in, names-set}
use Rattle.claims.proofs.agreement.Moving.{length-lower, lower-kept, lower-blocks, lower-prints, lower-at, lower-count}
use Rattle.claims.proofs.kept.JournalLaws.{applied_append, sound_append, rising_append, has_before_append}
use Rattle.claims.proofs.kept.Sound.{Sound, Rising}
use Rattle.book.specs.FormFacts.{BookParts}
use Rattle.book.proofs.Conditions.{cell_in}
use native.Mathlib.Nat.{zero-add}
use Rattle.claims.proofs.agreement.Trail.{later}

abbrev pub is_mapped : ℕ → Bool
is_mapped p = not (eqb p unmapped)

-- records with this before
abbrev pub took_away : ℕ → List Rec → ℕ
took_away p rs = count_of (λ (r : Rec). eqb r.before p) rs

-- x is the book at the retirement's start, y the book with volume v's cells before LBN k cleared
pub record Cleared (x : Book) (v until k : ℕ) (y : Book) : Type 0 where
  pub new : List Rec
  -- the volume's map
  pub row : List ℕ
  pub sizes : y.sizes ≡ x.sizes
  pub cursor : y.cursor ≡ x.cursor
  pub retentions : y.retentions ≡ x.retentions
  pub slots : y.slots ≡ x.slots
  pub maps : y.maps ≡ set x.maps v row
  pub width : length row ≡ x.sizes.l
  pub empty : (l : ℕ) → l < k → get_or row l unmapped ≡ unmapped
  pub cells : (l : ℕ) → get_or row l unmapped ≢ unmapped → get_or row l unmapped < x.sizes.n
  -- the records
  pub records : y.records ≡ x.records ++ new
  pub applies : row ≡ applied (get_or x.maps v []) new
  pub sound : Sound (get_or x.maps v []) new
  pub rising : Rising 0 new
  pub low : all (λ (r : Rec). ltb r.lbn k) new ≡ true
  pub outs : all (after_ok true) new ≡ true
  pub many : length new + count_of is_mapped row ≡ mapped_cells x v
  -- the entries
  pub entries : length y.entries ≡ x.sizes.n
  pub counts : (q : ℕ) → q < x.sizes.n → (entry_at y.entries q).count ≡ names_in x.maps v row q
  pub names : (q : ℕ) → q < x.sizes.n → names_in x.maps v row q + took_away q new ≡ named x q
  pub expiries : (q : ℕ) → q < x.sizes.n
      → (entry_at y.entries q).expiry ≡ max (entry_at x.entries q).expiry (when has_before q new then until else 0)
  pub held : (q : ℕ) → (entry_at y.entries q).held ≡ (entry_at x.entries q).held
  pub blocks : (pool : List ℕ) → blocks_in y.entries pool ≡ blocks_in x.entries pool
  pub prints : prints_sound y ≡ true

-- one more LBN of a map that is unmapped
pub empty-more : (k : ℕ) (m : List ℕ) → get_or m k unmapped ≡ unmapped → ((l : ℕ) → l < k → get_or m l unmapped ≡ unmapped)
    → (l : ℕ) → l < suc k → get_or m l unmapped ≡ unmapped
empty-more k m e f l h = go (eqb l k) refl
  where
    go : (t : Bool) → eqb l k ≡ t → get_or m l unmapped ≡ unmapped
    go true g = ap (λ (i : ℕ). get_or m i unmapped) (eqb-true l k g) ∙ e
    go false g = f l (let n = eqb-false l k g in omega arith)

module _ (x : Book) (v until : ℕ) (inside : v < length x.maps) (small : x.sizes.n < unmapped) where
  module _ (k : ℕ) (y : Book) (c : Cleared x v until k y) (below : k < x.sizes.l) where
    abbrev before : ℕ
    before = get_or c.row k unmapped

    cell-here : cell_at y.maps v k ≡ before
    cell-here =
        ap (λ (ms : List (List ℕ)). cell_at ms v k) c.maps
        ∙ ap (λ (m : List ℕ). get_or m k unmapped) (get_or-set_same x.maps v c.row [] inside)

    -- ---- a cell that isn't mapped

    low-more : all (λ (r : Rec). ltb r.lbn (suc k)) c.new ≡ true
    low-more =
        all_weaker (λ (r : Rec). ltb r.lbn k) (λ (r : Rec). ltb r.lbn (suc k)) c.new
        (λ r e. lt-ltb r.lbn (suc k) (let l = ltb-true r.lbn k e in omega arith)) c.low

    pass : before ≡ unmapped → Cleared x v until (suc k) y
    pass e = record {
      new = c.new;
      row = c.row;
      sizes = c.sizes;
      cursor = c.cursor;
      retentions = c.retentions;
      slots = c.slots;
      maps = c.maps;
      width = c.width;
      empty = empty-more k c.row e c.empty;
      cells = c.cells;
      records = c.records;
      applies = c.applies;
      sound = c.sound;
      rising = c.rising;
      low = low-more;
      outs = c.outs;
      many = c.many;
      entries = c.entries;
      counts = c.counts;
      names = c.names;
      expiries = c.expiries;
      held = c.held;
      blocks = c.blocks;
      prints = c.prints;
    }

    -- ---- a mapped one

    module _ (mapped : before ≢ unmapped) where
      abbrev rec : Rec
      rec = record { lbn = k; before = before; after = unmapped }

      abbrev es : List Entry
      es = y.entries

      within : before < x.sizes.n
      within = c.cells k mapped

      in_entries : before ≢ unmapped → before < length es
      in_entries z = omega (arith, within, c.entries)

      -- the cells without this one
      out : (q : ℕ) → q < x.sizes.n
          → names_in x.maps v (set c.row k unmapped) q + bit (eqb q before) ≡ names_in x.maps v c.row q
      out q h =
          names-set x.maps v c.row k unmapped q inside (omega (arith, c.width))
          ∙ rw (ne_eqb q unmapped (λ (z : q ≡ unmapped). omega arith)) (omega arith)

      -- the block has a count: this cell names it
      goes : clear_number y before ≡ 0
      unfolding clear_number
      goes = rw (ne_eqb (entry_at es before).count 0 (λ (z : (entry_at es before).count ≡ 0).
          omega (arith, c.counts before within, out before within, ap bit (eq-eqb before before refl))))

      abbrev next : Book
      next = cleared v until k before y

      counts-next : (q : ℕ) → q < x.sizes.n → (entry_at (lower until before es) q).count ≡ names_in x.maps v (set c.row k unmapped) q
      counts-next q h =
          lower-count until before 0 es q (omega arith) in_entries ∙ omega (arith, c.counts q h, out q h)

      took_more : (q : ℕ) → took_away q (c.new ++ (rec ∷ [])) ≡ took_away q c.new + bit (eqb q before)
      took_more q = count_of_append (λ (r : Rec). eqb r.before q) c.new (rec ∷ []) ∙ ap (λ (n : ℕ). took_away q c.new + n) (one (eqb before q) ∙ ap bit (eqb_swap before q))
        where
          one : (t : Bool) → (when t then 1 else 0) ≡ bit t
          one true = refl
          one false = refl

      before_more : (q : ℕ) → has_before q (c.new ++ (rec ∷ [])) ≡ (has_before q c.new || eqb q before)
      before_more q =
          has_before_append q c.new (rec ∷ [])
          ∙ ap (λ (t : Bool). has_before q c.new || t) (or_no (eqb before q) ∙ eqb_swap before q)

      expiry-lower : (q : ℕ) → q < x.sizes.n
          → (entry_at (lower until before es) q).expiry ≡ max (entry_at es q).expiry (when eqb q before then until else 0)
      unfolding lowered count_as expiry_as
      expiry-lower q h = ap (λ (e : Entry). e.expiry) (lower-at until before es q (omega arith) in_entries) ∙ go (eqb q before)
        where
          go : (t : Bool) → (when t then lowered until (entry_at es q) else entry_at es q).expiry
              ≡ max (entry_at es q).expiry (when t then until else 0)
          go true = refl
          go false = omega arith

      expiry-next : (q : ℕ) → q < x.sizes.n → (entry_at (lower until before es) q).expiry
          ≡ max (entry_at x.entries q).expiry (when has_before q (c.new ++ (rec ∷ [])) then until else 0)
      expiry-next q h =
          expiry-lower q h
          ∙ ap (λ (e : ℕ). max e (when eqb q before then until else 0)) (c.expiries q h)
          ∙ later (entry_at x.entries q).expiry until (has_before q c.new) (eqb q before)
          ∙ ap (λ (t : Bool). max (entry_at x.entries q).expiry (when t then until else 0)) (sym (before_more q))

      cells-next : (l : ℕ) → get_or (set c.row k unmapped) l unmapped ≢ unmapped → get_or (set c.row k unmapped) l unmapped < x.sizes.n
      cells-next l z = go (eqb l k) refl
        where
          go : (t : Bool) → eqb l k ≡ t → get_or (set c.row k unmapped) l unmapped < x.sizes.n
          go true e =
              absurd (z (ap (λ (i : ℕ). get_or (set c.row k unmapped) i unmapped) (eqb-true l k e)
              ∙ get_or-set_same c.row k unmapped unmapped (omega (arith, c.width))))
          go false e =
              let s : get_or (set c.row k unmapped) l unmapped ≡ get_or c.row l unmapped =
              get_or-set_other c.row k l unmapped unmapped (eqb-false l k e) in
              rw s (c.cells l (λ (n : get_or c.row l unmapped ≡ unmapped). z (s ∙ n)))

      empty-next : (l : ℕ) → l < suc k → get_or (set c.row k unmapped) l unmapped ≡ unmapped
      empty-next =
          empty-more k (set c.row k unmapped) (get_or-set_same c.row k unmapped unmapped (omega (arith, c.width)))
          (λ l h. get_or-set_other c.row k l unmapped unmapped (λ (e : l ≡ k). omega arith) ∙ c.empty l h)

      maps-next : cells_with y.maps v k unmapped ≡ set x.maps v (set c.row k unmapped)
      maps-next =
          ap (λ (ms : List (List ℕ)). cells_with ms v k unmapped) c.maps
          ∙ rw (get_or-set_same x.maps v c.row [] inside) (set-set x.maps v c.row (set c.row k unmapped))

      many-next : length (c.new ++ (rec ∷ [])) + count_of is_mapped (set c.row k unmapped) ≡ mapped_cells x v
      many-next =
          omega (
            arith,
            length-append c.new (rec ∷ []),
            count_set is_mapped c.row k unmapped unmapped (omega (arith, c.width)),
            ap (λ (t : Bool). bit (not t)) (ne_eqb before unmapped mapped),
            c.many,
          )

      sound-here : Sound (applied (get_or x.maps v []) c.new) (rec ∷ [])
      unfolding Sound
      sound-here =
          let e = c.applies in
          (rw (← e) (omega (arith, c.width)), ap (λ (m : List ℕ). get_or m k unmapped) e, tt)

      clear_next : Cleared x v until (suc k) next
      unfolding cleared with_record with_maps with_entries prints_sound lowered count_as expiry_as after_ok
      clear_next = record {
        new = c.new ++ (rec ∷ []);
        row = set c.row k unmapped;
        sizes = c.sizes;
        cursor = c.cursor;
        retentions = c.retentions;
        slots = c.slots;
        maps = maps-next;
        width = length-set c.row k unmapped ∙ c.width;
        empty = empty-next;
        cells = cells-next;
        records = ap (λ (rs : List Rec). rs ++ (rec ∷ [])) c.records ∙ append_assoc x.records c.new (rec ∷ []);
        applies = ap (λ (m : List ℕ). set m k unmapped) c.applies ∙ sym (applied_append (get_or x.maps v []) c.new (rec ∷ []));
        sound = sound_append (get_or x.maps v []) c.new (rec ∷ []) c.sound sound-here;
        rising = rising_append 0 k c.new rec c.rising c.low (omega arith) (omega arith);
        low = all_append (λ (r : Rec). ltb r.lbn (suc k)) c.new (rec ∷ []) ∙ rw (low-more, lt-ltb k (suc k) (omega arith));
        outs = all_append (after_ok true) c.new (rec ∷ []) ∙ rw c.outs;
        many = many-next;
        entries = length-lower until before es ∙ c.entries;
        counts = counts-next;
        names = λ q h. omega (arith, c.names q h, took_more q, out q h);
        expiries = expiry-next;
        held = λ q. lower-kept until before es (λ (e : Entry). e.held) (λ e. refl) q ∙ c.held q;
        blocks = λ pool. lower-blocks until before es pool ∙ c.blocks pool;
        prints = ap differ (lower-prints until before es) ∙ c.prints;
      }

    -- ---- either

    pub clear_step : (z : Book) × ((clear_cell v until k (cell_at y.maps v k) y ≡ accepted z) × Cleared x v until (suc k) z)
    unfolding clear_cell
    clear_step = rw cell-here (go (eqb before unmapped) refl)
      where
        go : (t : Bool) → eqb before unmapped ≡ t → (z : Book) × ((clear_cell v until k before y ≡ accepted z) × Cleared x v until (suc k) z)
        go true e = (y, (rw e, pass (eqb-true before unmapped e)))
        go false e = let n = eqb-false before unmapped e in (next n, (rw (e, goes n), clear_next n))

  -- ---- all of them

  pub clear-run : (m k : ℕ) (y : Book) → Cleared x v until k y → k + m ≡ x.sizes.l
      → (z : Book) × ((clear_cells v until (up_from k m) y ≡ accepted z) × Cleared x v until x.sizes.l z)
  clear-run zero k y c e = (y, (refl, subst (λ (n : ℕ). Cleared x v until n y) (omega arith) c))
  clear-run (suc m) k y c e =
      let s = clear_step k y c (omega arith) in
      let r = clear-run m (suc k) s.0 s.1.1 (omega arith) in
      (r.0, (rw s.1.0 r.1.0, r.1.1))

  -- where counts are cells
  pub clear-start : Sized x → BookParts x → v < volumes → ((q : ℕ) → q < x.sizes.n → (entry_at x.entries q).count ≡ named x q)
      → prints_sound x ≡ true → Cleared x v until 0 x
  unfolding named mapped_cells Sound Rising
  clear-start s p own counts prints =
      let row = get_or x.maps v [] in
      let same : (q : ℕ) → names_in x.maps v row q ≡ count_of (eqb q) (joined x.maps) =
      λ q. ap (λ (ms : List (List ℕ)). count_of (eqb q) (joined ms)) (set-get_or x.maps v []) in
      record {
        new = [];
        row = row;
        sizes = refl;
        cursor = refl;
        retentions = refl;
        slots = refl;
        maps = sym (set-get_or x.maps v []);
        width = s.cells v own;
        empty = λ l h. absurd (omega arith);
        cells = λ l z. inside_of (cell_in x p v l) z;
        records = sym (append-nil x.records);
        applies = refl;
        sound = tt;
        rising = tt;
        low = refl;
        outs = refl;
        many = zero-add (count_of is_mapped row);
        entries = s.entries;
        counts = λ q h. counts q h ∙ sym (same q);
        names = λ q h. omega (arith, same q);
        expiries = λ q h. omega arith;
        held = λ q. refl;
        blocks = λ pool. refl;
        prints = prints;
      }
    where
      inside_of : {c n : ℕ} → (c < n) ⊎ (c ≡ unmapped) → c ≢ unmapped → c < n
      inside_of (inl l) z = l
      inside_of (inr e) z = absurd (z e)

-- ---- at the end

pub none_mapped : (n : ℕ) → count_of is_mapped (replicate n unmapped) ≡ 0
none_mapped zero = refl
none_mapped (suc n) = none_mapped n

module _ {x : Book} {v until : ℕ} {y : Book} (c : Cleared x v until x.sizes.l y) where
  pub row-empty : c.row ≡ replicate x.sizes.l unmapped
  row-empty =
      ext_get_or unmapped c.row (replicate x.sizes.l unmapped) (c.width ∙ sym (length-replicate x.sizes.l unmapped))
      (λ l h. c.empty l (omega (arith, c.width)) ∙ sym (get_or_replicated x.sizes.l unmapped l))

  -- "a record .. for each mapped cell"
  pub record-each : length c.new ≡ mapped_cells x v
  record-each =
      omega (arith, c.many, ap (λ (m : List ℕ). count_of is_mapped m) row-empty, none_mapped x.sizes.l)
