-- Both sides agree again after a retirement whose cells were all cleared, the book after being in form.
use Prim.Native.Nat.{ℕ, ◌<◌, ◌+◌}
use mathlib.Core.Path.{◌≡◌, refl, sym, ap, ap₂, ◌∙◌}
use mathlib.Core.Bool.{Bool, true, false, not, ◌||◌}
use mathlib.Core.List.{List, [], ◌∷◌, ◌++◌}
use native.Mathlib.Omega.{arith}
use lib.Dec.{eqb, leb-zero}
use lib.ListN.{length, set, replicate}
use borrow.Author.Tests.{eqb-true, eq-eqb, not-true}
use Rattle.words.specs.Blocks.{unmapped}
use Rattle.words.specs.Choice.{when◌then◌else◌}
use Rattle.words.proofs.ChoiceLaws.{and_false, or_l, or_no, or_r}
use Rattle.words.proofs.Places.{count_of-none}
use Rattle.words.specs.Lists.{joined, count_of}
use Rattle.book.specs.Book.{volumes, Sizes, Slot, Rec, Book, entry_at, retention_of}
use Rattle.book.specs.Next.{with_day, with_slot}
use Rattle.book.proofs.Clauses.{book-parts}
use Rattle.model.specs.Journal.{Backup, journal_of, journal, slots_of, days}
use Rattle.model.specs.Audit.{replayed, no_maps, has_before, due_of, until_in, prints_sound}
use Rattle.model.specs.Backup.{until_next}
use Rattle.model.specs.Retire.{mapped_cells, retired}
use Rattle.model.specs.Plain
use Rattle.model.specs.Plain.{retirement, Taken, Plain, with_taken}
use Rattle.model.specs.PlainRetire
use Rattle.model.specs.PlainRetire.{cells_of}
use Rattle.claims.proofs.kept.Sound.{SoundAll, Days, AllRise, EmptiedAll}
use Rattle.claims.proofs.agreement.Agree.{Fit, Agree, taken_from, named, reaches}
use Rattle.claims.proofs.agreement.AgreeLaws.{current-agree}
use Rattle.claims.proofs.agreement.Clearing.{took_away, Cleared, row-empty, record-each}
use Rattle.claims.proofs.agreement.Level.{names_in}
use Rattle.claims.proofs.form.RetireAllowed.{MayRetire}
use Rattle.claims.proofs.kept.JournalLaws.{added, journal_append, replayed_append, sound_all_append, emptied_append, days_append}
use Rattle.claims.proofs.kept.JournalLaws.{all_rise_append, until_in_append, until_in-book, reaches_append}
use Rattle.claims.proofs.kept.Reaches.{reached-earlier}
use Rattle.claims.proofs.kept.Replays.{taken_from_append, last-day}

-- as many cells are mapped
pub cells_agree : {x : Book} {pool : List ℕ} {q : Plain} → Agree x pool q → (v : ℕ) → v < volumes → cells_of q v ≡ mapped_cells x v
unfolding mapped_cells
cells_agree g v h = ap (λ (m : List ℕ). count_of (λ p. not (eqb p unmapped)) m) (current-agree g v h)

module _ {x : Book} {pool : List ℕ} {q : Plain} (g : Agree x pool q) (v t : ℕ) (ok : MayRetire x v t) (inside : v < volumes)
    (w : Book) (c : Cleared x v (until_next x v) x.sizes.l w) where
  -- our book and the store after
  abbrev y : Book
  y = (retired x v t w).book

  abbrev q' : Plain
  q' = (PlainRetire.retired q v t).store

  abbrev slot : Slot
  slot = record { volume = v; retire = true; day = t; first = length x.records; number = mapped_cells x v }

  -- what the slot adds to the journal
  abbrev b : Backup
  b = added x.slots slot c.new

  journal-after : journal y ≡ journal x ++ (b ∷ [])
  unfolding journal retired with_day with_slot
  journal-after =
      ap₂ (λ (ts : List Slot) (rs : List Rec). journal_of [] (ts ++ (slot ∷ [])) rs) c.slots c.records
      ∙ journal_append x.slots x.records slot c.new (book-parts x g.fit.form).pairs (record-each c)

  -- ---- maps and journal

  no_maps-after : no_maps y ≡ no_maps x
  unfolding retired with_day with_slot no_maps
  no_maps-after = ap (λ (s : Sizes). replicate volumes (replicate s.l unmapped)) c.sizes

  maps-new : y.maps ≡ set x.maps v c.row
  unfolding retired with_day with_slot
  maps-new = c.maps

  maps_after : y.maps ≡ replayed (no_maps y) (journal y)
  maps_after =
      maps-new
      ∙ ap (λ (n : List ℕ). set x.maps v n) c.applies
      ∙ ap (λ (ms : List (List ℕ)). replayed ms (b ∷ [])) g.maps
      ∙ sym (replayed_append (no_maps x) (journal x) (b ∷ []))
      ∙ sym (ap₂ replayed no_maps-after journal-after)

  sound-after : SoundAll (no_maps y) (journal y)
  unfolding SoundAll
  sound-after =
      rw (no_maps-after, journal-after)
      (sound_all_append (no_maps x) (journal x) (b ∷ []) g.sound
      (rw (← g.maps) (omega (arith, g.fit.sized.maps), c.sound, tt)))

  -- "the map becomes unmapped"
  emptied_after : EmptiedAll y.sizes.l (no_maps y) (journal y)
  unfolding EmptiedAll retired with_day with_slot
  emptied_after =
      rw (no_maps-after, journal-after, c.sizes)
      (emptied_append x.sizes.l (no_maps x) (journal x) (b ∷ []) g.emptied
      (rw (← g.maps) (λ (e : true ≡ true). sym c.applies ∙ row-empty c, tt)))

  -- ---- what the plain store took

  taken-new : record { volume = v; day = t; what = retirement; changes = cells_of q v } ∷ []
      ≡ taken_from (replayed (no_maps x) (journal x)) (b ∷ [])
  taken-new =
      ap (λ (k : ℕ). record { volume = v; day = t; what = retirement; changes = k } ∷ []) (cells_agree g v inside ∙ sym (record-each c))

  taken-after : q'.taken ≡ taken_from (no_maps y) (journal y)
  unfolding PlainRetire.retired Plain.at_day with_taken
  taken-after =
      ap₂ (λ (is js : List Taken). is ++ js) g.taken taken-new
      ∙ sym (taken_from_append (no_maps x) (journal x) (b ∷ []))
      ∙ sym (ap₂ taken_from no_maps-after journal-after)

  days-after : Days 0 (journal y) t
  days-after = rw journal-after (days_append 0 x.day (journal x) b g.days ok.day)

  rising_after : AllRise (journal y)
  rising_after = rw journal-after (all_rise_append (journal x) b g.rising c.rising)

  -- ---- the entries

  named-after : (p : ℕ) → named y p ≡ names_in x.maps v c.row p
  unfolding named
  named-after p = ap (λ (ms : List (List ℕ)). count_of (eqb p) (joined ms)) maps-new

  retained : y.retentions ≡ x.retentions
  unfolding retired with_day with_slot
  retained = c.retentions

  -- it counts from the volume's last backup
  due-new : due_of (retention_of x v) b ≡ until_next x v
  unfolding days slots_of journal
  due-new = ap (λ (d : ℕ). d + retention_of x v) (last-day v [] x.slots x.records)

  expiry-after : (p : ℕ) → p < x.sizes.n → (entry_at w.entries p).expiry ≡ until_in y p (journal y)
  expiry-after p h =
      c.expiries p h
      ∙ omega (
        ap (λ (u : ℕ). when has_before p c.new then u else 0) due-new,
        arith,
        g.expiries p h,
        ap (λ (bs : List Backup). until_in y p bs) journal-after,
        until_in-book x y p (journal x ++ (b ∷ [])) retained,
        until_in_append x p (journal x) (b ∷ []),
      )

  -- a block that no cell lost is in no record
  not_lost : (p : ℕ) → took_away p c.new ≡ 0 → has_before p c.new ≡ false
  not_lost p e =
      not-true (has_before p c.new)
      (sym (count_of-none (λ (r : Rec). eqb r.before p) c.new) ∙ eq-eqb (took_away p c.new) 0 e)

  was-lost : (p : ℕ) → has_before p c.new ≡ false → took_away p c.new ≡ 0
  was-lost p e = eqb-true (took_away p c.new) 0 (count_of-none (λ (r : Rec). eqb r.before p) c.new ∙ ap not e)

  used-after : t ≡ 0 → (p : ℕ) → p < x.sizes.n → (entry_at w.entries p).held ≡ true → named y p ≡ 0 → reaches y 0 p ≡ true
  used-after first p h e z =
      rw (reaches_append x y 0 p b retained journal-after, leb-zero) (go (has_before p c.new) refl)
    where
      go : (s : Bool) → has_before p c.new ≡ s → (reaches x 0 p || s) ≡ true
      go true f = or_r (reaches x 0 p) true refl
      go false f =
          or_l (reaches x 0 p) false
          (g.used (let late = ok.day in omega arith) p h (sym (c.held p) ∙ e) (omega (arith, c.names p h, was-lost p f, named-after p)))

  free-after : (p : ℕ) → p < x.sizes.n → (entry_at w.entries p).held ≡ false → (named y p ≡ 0) × (reaches y t p ≡ false)
  unfolding reaches
  free-after p h e =
      let f = g.free p h (sym (c.held p) ∙ e) in
      let none : has_before p c.new ≡ false = not_lost p (omega (arith, c.names p h, f.0)) in (
        named-after p ∙ omega (arith, c.names p h, f.0),
        rw (reaches_append x y t p b retained journal-after, none, and_false, or_no)
            (reached-earlier x x.day t p (journal x) ok.day f.1),
      )

  -- ---- all of it

  pub agree_after : Fit y → Agree y pool q'
  unfolding retired with_day with_slot PlainRetire.retired Plain.at_day with_taken prints_sound
  agree_after fit =
      let n : w.sizes.n ≡ x.sizes.n = ap (λ s. s.n) c.sizes in
      record {
        fit = fit;
        pool_long = rw n g.pool_long;
        sizes = g.sizes ∙ sym c.sizes;
        day = refl;
        cursor = g.cursor ∙ sym c.cursor;
        blocks = g.blocks ∙ sym (c.blocks pool);
        retentions = g.retentions ∙ sym c.retentions;
        taken = taken-after;
        maps = maps_after;
        sound = sound-after;
        days = days-after;
        rising = rising_after;
        emptied = emptied_after;
        counts = λ p h. c.counts p (omega arith) ∙ sym (named-after p);
        expiries = λ p h. expiry-after p (omega arith);
        used = λ first p h. used-after first p (omega arith);
        free = λ p h. free-after p (omega arith);
        prints = c.prints;
      }
