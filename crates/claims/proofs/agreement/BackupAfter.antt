-- Both sides agree again after a backup whose changes were all made, the book after being in form.
use Prim.Native.Nat.{ℕ, suc, ◌+◌, ◌≤◌, ◌<◌}
use mathlib.Core.Path.{◌≡◌, refl, sym, ap, ap₂, ◌∙◌}
use mathlib.Core.Bool.{true, false}
use mathlib.Core.List.{List, [], ◌∷◌, ◌++◌, map}
use native.Mathlib.Omega.{arith}
use lib.Dec.{eqb, leb-zero}
use lib.ListN.{length, get_or, set, replicate, length-map}
use Rattle.words.specs.Blocks.{unmapped}
use Rattle.words.specs.Choice.{when◌then◌else◌}
use Rattle.words.proofs.ChoiceLaws.{and_false, or_no, not_both}
use Rattle.words.specs.Lists.{joined, count_of}
use Rattle.runs.specs.Changes.{Change, change_count, changes}
use Rattle.runs.proofs.Laws.{length-changes, changes-rise}
use Rattle.book.specs.Book.{volumes, Sizes, Slot, Rec, Book, entry_at, retention_of}
use Rattle.book.specs.Next.{with_day, with_slot}
use Rattle.book.proofs.Clauses.{book-parts}
use Rattle.model.specs.Journal.{Backup, journal_of, journal, slots_of, days}
use Rattle.model.specs.Audit.{applied, replayed, no_maps, has_before, due_of, until_in, prints_sound}
use Rattle.model.specs.Backup.{Work, until_next, closed}
use Rattle.model.specs.Plain
use Rattle.model.specs.Plain.{image, Taken, Plain, with_blocks, with_taken}
use Rattle.model.specs.PlainBackup
use Rattle.model.specs.PlainBackup.{PlainWork}
use Rattle.claims.proofs.kept.Sound.{SoundAll, Days, Rising, AllRise, EmptiedAll}
use Rattle.claims.proofs.agreement.Agree.{Fit, Agree, taken_from, named, reaches}
use Rattle.claims.proofs.kept.JournalLaws.{added, journal_append, replayed_append, sound_all_append, days_append, emptied_append}
use Rattle.claims.proofs.kept.JournalLaws.{all_rise_append, until_in_append, until_in-book, reaches_append}
use Rattle.claims.proofs.kept.Replays.{taken_from_append, last-day}
use Rattle.claims.proofs.kept.Reaches.{reached-earlier}
use Rattle.claims.proofs.form.BackupAllowed.{Allowed}
use Rattle.claims.proofs.agreement.Level.{Level, names_in}
use Rattle.claims.proofs.agreement.Trail.{Trail}

-- ---- LBNs that rise, from their list

rising_from : (a : ℕ) (rs : List Rec) → ((i : ℕ) → i < length rs → a ≤ get_or (map (λ (r : Rec). r.lbn) rs) i 0)
    → ((i j : ℕ) → i < j → j < length rs → get_or (map (λ (r : Rec). r.lbn) rs) i 0 < get_or (map (λ (r : Rec). r.lbn) rs) j 0) → Rising a rs
unfolding Rising
rising_from a [] low up = tt
rising_from a (r ∷ rs) low up = (
  low 0 (omega arith),
  rising_from (suc r.lbn) rs (λ i h. up 0 (suc i) (omega arith) (omega arith))
      (λ i j h k. up (suc i) (suc j) (omega arith) (omega arith)),
)

module _ {x : Book} {pool : List ℕ} {q : Plain} (g : Agree x pool q) (v t : ℕ) (list : List ℕ) (ok : Allowed x v t list)
    (inside : v < volumes)
    (w : Work) (u : PlainWork) (a : Level x v w u) (r : Trail x v (until_next x v) (changes list) w u) where
  -- our book and the store after
  abbrev pub y : Book
  y = (closed x v t (change_count list) w).book

  abbrev pub q' : Plain
  q' = (PlainBackup.closed q v t (change_count list) u).store

  abbrev slot : Slot
  slot = record { volume = v; retire = false; day = t; first = length x.records; number = change_count list }

  -- the backup that is added
  abbrev b : Backup
  b = added x.slots slot r.new

  length-new : length r.new ≡ change_count list
  length-new =
      sym (length-map r.new (λ (r : Rec). r.lbn)) ∙ ap length r.lbns
      ∙ length-map (changes list) (λ (c : Change). c.lbn) ∙ length-changes list

  pub journal-after : journal y ≡ journal x ++ (b ∷ [])
  unfolding journal closed with_day with_slot
  journal-after =
      ap₂ (λ (ts : List Slot) (rs : List Rec). journal_of [] (ts ++ (slot ∷ [])) rs) a.slots r.records
      ∙ journal_append x.slots x.records slot r.new (book-parts x g.fit.form).pairs length-new

  pub rising_new : Rising 0 r.new
  rising_new =
      rising_from 0 r.new (λ i h. omega arith)
      (λ i j h k. rw r.lbns (changes-rise x.sizes.l list ok.good i j h (omega (arith, length-new))))

  -- ---- maps and journal

  no_maps-after : no_maps y ≡ no_maps x
  unfolding closed with_day with_slot no_maps
  no_maps-after = ap (λ (s : Sizes). replicate volumes (replicate s.l unmapped)) a.sizes

  maps-new : y.maps ≡ set x.maps v u.copy
  unfolding closed with_day with_slot
  maps-new = a.maps

  maps_after : y.maps ≡ replayed (no_maps y) (journal y)
  maps_after =
      maps-new
      ∙ ap (λ (n : List ℕ). set x.maps v n) r.copy
      ∙ ap (λ (ms : List (List ℕ)). replayed ms (b ∷ [])) g.maps
      ∙ sym (replayed_append (no_maps x) (journal x) (b ∷ []))
      ∙ sym (ap₂ replayed no_maps-after journal-after)

  sound-after : SoundAll (no_maps y) (journal y)
  unfolding SoundAll
  sound-after =
      rw (no_maps-after, journal-after)
      (sound_all_append (no_maps x) (journal x) (b ∷ []) g.sound
      (rw (← g.maps) (omega (arith, g.fit.sized.maps), r.sound, tt)))

  -- ---- what the plain store took

  taken-new : record { volume = v; day = t; what = image u.copy; changes = change_count list } ∷ []
      ≡ taken_from (replayed (no_maps x) (journal x)) (b ∷ [])
  taken-new =
      ap₂ (λ (m : List ℕ) (k : ℕ). record { volume = v; day = t; what = image m; changes = k } ∷ [])
      (r.copy ∙ ap (λ (ms : List (List ℕ)). applied (get_or ms v []) r.new) g.maps) (sym length-new)

  taken-after : q'.taken ≡ taken_from (no_maps y) (journal y)
  unfolding PlainBackup.closed Plain.at_day with_blocks with_taken
  taken-after =
      ap₂ (λ (is js : List Taken). is ++ js) g.taken taken-new
      ∙ sym (taken_from_append (no_maps x) (journal x) (b ∷ []))
      ∙ sym (ap₂ taken_from no_maps-after journal-after)

  -- a backup retires nothing
  emptied_after : EmptiedAll y.sizes.l (no_maps y) (journal y)
  unfolding EmptiedAll closed with_day with_slot
  emptied_after =
      rw (no_maps-after, journal-after, a.sizes)
      (emptied_append x.sizes.l (no_maps x) (journal x) (b ∷ []) g.emptied (λ e. absurd (not_both false e refl), tt))

  days-after : Days 0 (journal y) t
  days-after = rw journal-after (days_append 0 x.day (journal x) b g.days ok.day)

  rising_after : AllRise (journal y)
  rising_after = rw journal-after (all_rise_append (journal x) b g.rising rising_new)

  -- ---- the entries

  entries-after : y.entries ≡ w.book.entries
  unfolding closed with_day with_slot
  entries-after = refl

  named-after : (p : ℕ) → named y p ≡ names_in x.maps v u.copy p
  unfolding named
  named-after p = ap (λ (ms : List (List ℕ)). count_of (eqb p) (joined ms)) maps-new

  retained : y.retentions ≡ x.retentions
  unfolding closed with_day with_slot
  retained = a.retentions

  -- the new backup counts from the volume's last one before it
  due-new : due_of (retention_of x v) b ≡ until_next x v
  unfolding days slots_of journal
  due-new = ap (λ (d : ℕ). d + retention_of x v) (last-day v [] x.slots x.records)

  expiry-after : (p : ℕ) → p < x.sizes.n → (entry_at w.book.entries p).expiry ≡ until_in y p (journal y)
  expiry-after p h =
      r.expiries p h
      ∙ omega (
        ap (λ (u : ℕ). when has_before p r.new then u else 0) due-new,
        arith,
        g.expiries p h,
        ap (λ (bs : List Backup). until_in y p bs) journal-after,
        until_in-book x y p (journal x ++ (b ∷ [])) retained,
        until_in_append x p (journal x) (b ∷ []),
      )

  used-after : t ≡ 0 → (p : ℕ) → p < x.sizes.n → (entry_at w.book.entries p).held ≡ true → named y p ≡ 0 → reaches y 0 p ≡ true
  used-after first p h e z =
      rw (reaches_append x y 0 p b retained journal-after, leb-zero)
      (r.used (let late = ok.day in omega arith) p h e (sym (named-after p) ∙ z))

  free-after : (p : ℕ) → p < x.sizes.n → (entry_at w.book.entries p).held ≡ false → (named y p ≡ 0) × (reaches y t p ≡ false)
  unfolding reaches
  free-after p h e =
      let f = r.free p h e in (
        named-after p ∙ f.0,
        rw (reaches_append x y t p b retained journal-after, f.1, and_false, or_no)
            (reached-earlier x x.day t p (journal x) ok.day (g.free p h f.2).1),
      )

  -- ---- all of it

  pub agree_after : Fit y → Agree y w.pool q'
  unfolding closed with_day with_slot PlainBackup.closed Plain.at_day with_blocks with_taken prints_sound
  agree_after fit =
      let n : w.book.sizes.n ≡ x.sizes.n = ap (λ s. s.n) a.sizes in
      record {
        fit = fit;
        pool_long = a.alike.pool;
        sizes = g.sizes ∙ sym a.sizes;
        day = refl;
        cursor = a.alike.cursor;
        blocks = a.alike.blocks;
        retentions = g.retentions ∙ sym a.retentions;
        taken = taken-after;
        maps = maps_after;
        sound = sound-after;
        days = days-after;
        rising = rising_after;
        emptied = emptied_after;
        counts = λ p h. a.counts p (omega arith) ∙ sym (named-after p);
        expiries = λ p h. expiry-after p (omega arith);
        used = λ first p h. used-after first p (omega arith);
        free = λ p h. free-after p (omega arith);
        prints = r.prints;
      }
