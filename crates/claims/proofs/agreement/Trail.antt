-- What a backup has written so far: its records over the map that it started from, and what they say of each entry. A change keeps it.
use Prim.Native.Nat.{ℕ, ◌+◌, ◌<◌, max}
use mathlib.Core.Path.{◌≡◌, refl, sym, ap, ◌∙◌}
use mathlib.Core.Logic.{◌≢◌}
use mathlib.Core.Bool.{Bool, true, false, ◌||◌}
use mathlib.Core.List.{List, [], ◌∷◌, ◌++◌, map, append_assoc}
use native.Mathlib.Omega.{arith}
use lib.Dec.{eqb}
use lib.ListN.{length, get_or, set}
use borrow.Author.Tests.{eqb-true, eqb-false}
use Rattle.words.proofs.Appends.{some_of_append, map_append}
use Rattle.words.specs.Blocks.{unmapped}
use Rattle.words.specs.Choice.{when◌then◌else◌}
use Rattle.words.proofs.ChoiceLaws.{or_r, or_no, not_both}
use Rattle.words.specs.Lists.{bit}
use Rattle.words.specs.Lists.{some_of, those, differ}
use Rattle.words.proofs.Tests.{eqb_swap, or_neither}
use Rattle.runs.specs.Changes.{Change}
use Rattle.book.specs.Book.{Entry, Rec, Book, entry_at, cell_at}
use Rattle.book.specs.Next.{with_entries, with_maps, with_record}
use Rattle.model.specs.Audit.{applied, has_before, prints_sound}
use Rattle.model.specs.Backup.{Work, name_block, moved}
use Rattle.model.specs.PlainBackup
use Rattle.model.specs.PlainBackup.{PlainWork}
use Rattle.claims.proofs.kept.Sound.{Sound}
use Rattle.claims.proofs.agreement.Agree.{reaches}
use Rattle.claims.proofs.kept.JournalLaws.{applied_append, sound_append, has_before_append}
use Rattle.claims.proofs.agreement.Placing.{PlacedAt}
use Rattle.claims.proofs.agreement.Moving.{moved_entries, moved-held, moved-expiry, moved-prints, moved_other}
use Rattle.claims.proofs.agreement.Level.{Level, names_in, names-set, placed-level, cell-before, before-inside}

-- some record has after p
abbrev pub has_after : ℕ → List Rec → Bool
has_after p rs = some_of (λ r. eqb r.after p) rs

-- x is the book at the backup's start, `until` the day that it gives befores, and the changes so far are ds
pub record Trail (x : Book) (v until : ℕ) (ds : List Change) (w : Work) (u : PlainWork) : Type 0 where
  pub new : List Rec
  pub records : w.book.records ≡ x.records ++ new
  pub copy : u.copy ≡ applied (get_or x.maps v []) new
  pub sound : Sound (get_or x.maps v []) new
  pub lbns : map (λ (r : Rec). r.lbn) new ≡ map (λ (c : Change). c.lbn) ds
  pub expiries : (q : ℕ) → q < x.sizes.n
      → (entry_at w.book.entries q).expiry ≡ max (entry_at x.entries q).expiry (when has_before q new then until else 0)
  pub used : x.day ≡ 0 → (q : ℕ) → q < x.sizes.n → (entry_at w.book.entries q).held ≡ true → names_in x.maps v u.copy q ≡ 0
      → (reaches x 0 q || has_before q new) ≡ true
  pub free : (q : ℕ) → q < x.sizes.n → (entry_at w.book.entries q).held ≡ false
      → (names_in x.maps v u.copy q ≡ 0) × (has_before q new ≡ false) × ((entry_at x.entries q).held ≡ false)
  pub prints : prints_sound w.book ≡ true
  pub kept : (q : ℕ) → q < x.sizes.n → has_before q new ≡ false → has_after q new ≡ false
      → entry_at w.book.entries q ≡ entry_at x.entries q

-- ---- small laws

-- an expiry that was raised before
pub later : (e t : ℕ) (a b : Bool) → max (max e (when a then t else 0)) (when b then t else 0) ≡ max e (when a || b then t else 0)
later e t true true = omega arith
later e t true false = omega arith
later e t false true = omega arith
later e t false false = omega arith

module _ (x : Book) (v : ℕ) (inside : v < length x.maps) (small : x.sizes.n < unmapped)
    (until : ℕ) (ds : List Change) (c : Change) (w : Work) (u : PlainWork) (p : ℕ) (w' : Work) (u' : PlainWork)
    (a : Level x v w u) (g : Trail x v until ds w u) (r : PlacedAt w u p w' u') (i : c.lbn < x.sizes.l) where
  abbrev before : ℕ
  before = get_or u'.copy c.lbn unmapped

  -- the record that is added
  abbrev rec : Rec
  rec = record { lbn = c.lbn; before = get_or u'.copy c.lbn unmapped; after = p }

  abbrev w_next : Work
  w_next = moved v until c.lbn before (record { pbn = p; work = w' })

  abbrev u_next : PlainWork
  u_next = PlainBackup.moved c.lbn (record { pbn = p; work = u' })

  level' : Level x v w' u'
  level' = placed-level x v w u p w' u' a r

  bound : p < x.sizes.n
  bound = omega (arith, r.bound, a.alike.entries, ap (λ s. s.n) a.sizes)

  -- the cells before and after
  cells : (q : ℕ) → names_in x.maps v (set u'.copy c.lbn p) q + bit (eqb q before) ≡ names_in x.maps v u.copy q + bit (eqb q p)
  cells q =
      names-set x.maps v u'.copy c.lbn p q inside (omega (arith, level'.width))
      ∙ ap (λ (m : List ℕ). names_in x.maps v m q + bit (eqb q p)) r.copy

  before_more : (q : ℕ) → has_before q (g.new ++ (rec ∷ [])) ≡ (has_before q g.new || eqb q before)
  before_more q =
      has_before_append q g.new (rec ∷ [])
      ∙ ap (λ (t : Bool). has_before q g.new || t) (or_no (eqb before q) ∙ eqb_swap before q)

  after_more : (q : ℕ) → has_after q (g.new ++ (rec ∷ [])) ≡ (has_after q g.new || eqb q p)
  after_more q =
      some_of_append (λ (r : Rec). eqb r.after q) g.new (rec ∷ [])
      ∙ ap (λ (t : Bool). has_after q g.new || t) (or_no (eqb p q) ∙ eqb_swap p q)

  used-next : x.day ≡ 0 → (q : ℕ) → q < x.sizes.n → (entry_at w'.book.entries q).held ≡ true → names_in x.maps v (set u'.copy c.lbn p) q ≡ 0
      → (reaches x 0 q || has_before q (g.new ++ (rec ∷ []))) ≡ true
  used-next first q k h z = rw (before_more q) (go (eqb q before) (eqb q p) refl refl)
    where
      go : (s t : Bool) → eqb q before ≡ s → eqb q p ≡ t → (reaches x 0 q || (has_before q g.new || s)) ≡ true
      go true t e f = or_r (reaches x 0 q) (has_before q g.new || true) (or_r (has_before q g.new) true refl)
      go false true e f = absurd (omega (arith, ap bit e, ap bit f, cells q))
      go false false e f =
          rw (or_no (has_before q g.new))
          (g.used first q k (ap (λ e. e.held) (sym (r.others q (eqb-false q p f))) ∙ h) (omega (arith, ap bit e, ap bit f, cells q)))

  free-next : (q : ℕ) → q < x.sizes.n → (entry_at w'.book.entries q).held ≡ false
      → (names_in x.maps v (set u'.copy c.lbn p) q ≡ 0) × (has_before q (g.new ++ (rec ∷ [])) ≡ false)
      × ((entry_at x.entries q).held ≡ false)
  free-next q k h = go (eqb q before) (eqb q p) refl refl
    where
      go : (s t : Bool) → eqb q before ≡ s → eqb q p ≡ t
          → (names_in x.maps v (set u'.copy c.lbn p) q ≡ 0) × (has_before q (g.new ++ (rec ∷ [])) ≡ false)
          × ((entry_at x.entries q).held ≡ false)
      go s true e f = absurd (not_both (entry_at w'.book.entries q).held (rw (eqb-true q p f) r.holds) h)
      go s false e f =
          let o = g.free q k (ap (λ e. e.held) (sym (r.others q (eqb-false q p f))) ∙ h) in
          let b : s ≡ false = off s (omega (arith, ap bit e, ap bit f, cells q, o.0)) in
          (omega (arith, ap bit f, cells q, o.0), rw (before_more q, o.1, e, b), o.2)
        where
          off : (s : Bool) → bit s ≡ 0 → s ≡ false
          off true z = absurd (omega arith)
          off false z = refl

  kept_next : (q : ℕ) → q < x.sizes.n → has_before q (g.new ++ (rec ∷ [])) ≡ false → has_after q (g.new ++ (rec ∷ [])) ≡ false
      → (eqb q before ≡ false) × (eqb q p ≡ false) × (entry_at w'.book.entries q ≡ entry_at x.entries q)
  kept_next q k e f =
      let b = or_neither (has_before q g.new) (eqb q before) (sym (before_more q) ∙ e) in
      let d = or_neither (has_after q g.new) (eqb q p) (sym (after_more q) ∙ f) in
      (b.1, d.1, r.others q (eqb-false q p d.1) ∙ g.kept q k b.0 d.0)

  records-next : w'.book.records
      ++ (record { lbn = c.lbn; before = cell_at w'.book.maps v c.lbn; after = p } ∷ [])
      ≡ x.records ++ (g.new ++ (rec ∷ []))
  records-next =
      ap (λ (b : ℕ). w'.book.records ++ (record { lbn = c.lbn; before = b; after = p } ∷ []))
      (cell-before x v c.lbn w' u' level' inside)
      ∙ ap (λ (l : List Rec). l ++ (rec ∷ [])) (r.aside.records ∙ g.records)
      ∙ append_assoc x.records g.new (rec ∷ [])

  sound-next : Sound (applied (get_or x.maps v []) g.new) (rec ∷ [])
  unfolding Sound
  sound-next =
      let e : u'.copy ≡ applied (get_or x.maps v []) g.new = r.copy ∙ g.copy in
      (rw (← e) (omega (arith, level'.width)), ap (λ (m : List ℕ). get_or m c.lbn unmapped) e, tt)

  inside-next : before ≢ unmapped → before < length w'.book.entries
  inside-next = before-inside x v c.lbn w' u' level'

  expiry-next : (q : ℕ) → q < x.sizes.n
      → (entry_at (moved_entries until before p w'.book.entries) q).expiry
      ≡ max (entry_at x.entries q).expiry (when has_before q (g.new ++ (rec ∷ [])) then until else 0)
  expiry-next q k =
      moved-expiry until before p w'.book.entries q (omega arith) inside-next
      ∙ ap (λ (e : ℕ). max e (when eqb q before then until else 0)) (r.expiries q ∙ g.expiries q k)
      ∙ later (entry_at x.entries q).expiry until (has_before q g.new) (eqb q before)
      ∙ ap (λ (t : Bool). max (entry_at x.entries q).expiry (when t then until else 0)) (sym (before_more q))

  prints-next : differ (map (λ (e : Entry). e.print)
      (those (λ (e : Entry). e.held) (moved_entries until before p w'.book.entries))) ≡ true
  unfolding prints_sound
  prints-next = ap differ (moved-prints until before p w'.book.entries) ∙ r.prints g.prints

  pub trail_next : Trail x v until (ds ++ (c ∷ [])) w_next u_next
  unfolding moved PlainBackup.moved name_block with_record with_maps with_entries prints_sound
  trail_next =
      let long : length w'.book.entries ≡ x.sizes.n = level'.alike.entries ∙ ap (λ s. s.n) level'.sizes in
      record {
        new = g.new ++ (rec ∷ []);
        records = records-next;
        copy = ap (λ (m : List ℕ). set m c.lbn p) (r.copy ∙ g.copy) ∙ sym (applied_append (get_or x.maps v []) g.new (rec ∷ []));
        sound = sound_append (get_or x.maps v []) g.new (rec ∷ []) g.sound sound-next;
        lbns =
            map_append (λ (r : Rec). r.lbn) g.new (rec ∷ [])
            ∙ ap (λ (l : List ℕ). l ++ (c.lbn ∷ [])) g.lbns
            ∙ sym (map_append (λ (c : Change). c.lbn) ds (c ∷ []));
        expiries = expiry-next;
        used = λ first q k h z. used-next first q k (sym (moved-held until before p w'.book.entries q) ∙ h) z;
        free = λ q k h. free-next q k (sym (moved-held until before p w'.book.entries q) ∙ h);
        prints = prints-next;
        kept = λ q k e f.
            let o = kept_next q k e f in
            moved_other until before p w'.book.entries q (omega arith) inside-next (omega (arith, bound)) o.0 o.1 ∙ o.2;
      }
