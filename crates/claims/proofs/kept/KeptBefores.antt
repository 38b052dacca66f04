-- Which blocks the kept backups name: besides those of the current maps, the befores of the first record of each LBN in each backup that
-- still reaches the day. So audit's last sentence takes one pass over the records.
use Prim.Native.Nat.{ℕ, zero, suc, ◌≤◌, ◌<◌}
use mathlib.Core.Path.{◌≡◌, refl, sym, ap, ◌∙◌}
use mathlib.Core.Logic.{◌≢◌, ◌⊎◌, inl, inr}
use mathlib.Core.Bool.{Bool, true, false, not, ◌&&◌, ◌||◌}
use mathlib.Core.List.{List, [], ◌∷◌}
use native.Mathlib.Omega.{arith}
use lib.Dec.{leb, ltb, eqb}
use lib.ListN.{length, get_or, drop, replicate, length-map}
use borrow.Author.Tests.{eqb-true, eq-eqb, ltb-true, ltb-false}
use Rattle.words.specs.Blocks.{unmapped}
use Rattle.words.specs.Choice.{when◌then◌else◌}
use Rattle.words.proofs.ChoiceLaws.{and_true, true_and, or_cases, or_l, or_r, not_both, same_test}
use Rattle.words.proofs.Each.{each_at, all-each}
use Rattle.words.specs.Lists.{all, up_from}
use Rattle.words.proofs.Places.{all_get_d, all-up_from, up_from-all}
use Rattle.book.specs.Book.{volumes, Book, cell_at, retention_of}
use Rattle.model.specs.Days.{kept}
use Rattle.model.specs.Journal.{Backup, journal, slots_in, slots_of, backup_count, days}
use Rattle.model.specs.Read.{records_of, image}
use Rattle.model.specs.Audit.{due_of, cell_sound, current_sound, backup_sound, backups_sound}
use Rattle.model.specs.Plain.{Taken, days_of, maps_of}
use Rattle.claims.proofs.agreement.Agree.{images_of}
use Rattle.claims.proofs.kept.Sound.{Days}
use Rattle.claims.proofs.kept.Retirements.{RetiresLast, count-within, count_next, image-end}
use Rattle.claims.proofs.kept.Replays.{map_after, Sounds, days_images_of, length_images_of, images_of_ends, backups-linked}
use Rattle.model.specs.JournalAt.{first_before}
use Rattle.claims.proofs.kept.ReadRule.{read_rule}
use Rattle.claims.proofs.kept.KeptOwn.{takes}
use Rattle.claims.proofs.kept.KeptCells.{kept_at, taken_at, kept-cell}
use Rattle.claims.proofs.kept.KeptNumbers.{kept-number, number-kept, takes_first, first-takes}
use Rattle.model.specs.JournalAt.{taken_sound}

-- what the law needs of a book: each volume's backups are sound and lead to its current map, and days never fall
pub record Replayed (x : Book) : Type 0 where
  pub sounds : (v : ℕ) → v < volumes → Sounds (replicate x.sizes.l unmapped) (slots_in v (journal x))
  pub maps : (v : ℕ) → v < volumes → map_after (replicate x.sizes.l unmapped) (slots_in v (journal x)) ≡ get_or x.maps v []
  pub days : (v : ℕ) → Days 0 (slots_in v (journal x)) x.day
  pub volumes : all (λ b. ltb b.volume volumes) (journal x) ≡ true
  -- "no slot of the volume follows" a retire slot
  pub ends : (v : ℕ) → RetiresLast (slots_of x v)

-- ---- cells that aren't sound

module _ (x : Book) where
  unsound_mapped : (p : ℕ) → cell_sound x p ≡ false → p ≢ unmapped
  unfolding cell_sound
  unsound_mapped p e q = not_both true refl (rw (eq-eqb p unmapped q) at e)

  -- a cell is sound if nothing else can be
  sound-unless : (p : ℕ) → (cell_sound x p ≡ false → ⊥) → cell_sound x p ≡ true
  sound-unless p h = go (cell_sound x p) refl
    where
      go : (t : Bool) → cell_sound x p ≡ t → t ≡ true
      go true e = refl
      go false e = absurd (h e)

  -- a backup of volume v that took p away is sound, so p is held
  taken-held : (p v l : ℕ) (bs : List Backup) → l < x.sizes.l → all (taken_sound x) bs ≡ true
      → taken_at p (retention_of x v) x.day l (slots_in v bs) ≡ true → cell_sound x p ≡ true
  unfolding taken_sound
  taken-held p v l [] h ok e = absurd (not_both false e refl)
  taken-held p v l (b ∷ bs) h ok e =
      let w = and_true (taken_sound x b) (all (taken_sound x) bs) ok in
      go (eqb b.volume v) refl e w.0 (taken-held p v l bs h w.1)
    where
      here : b.volume ≡ v → (leb x.day (due_of (retention_of x v) b) && takes p l b.records) ≡ true
          → taken_sound x b ≡ true → cell_sound x p ≡ true
      here q a s =
          let w = and_true (leb x.day (due_of (retention_of x v) b)) (takes p l b.records) a in
          let s' : all (λ j. cell_sound x (first_before j b.records unmapped)) (up_from 0 x.sizes.l) ≡ true = rw (q, w.0) at s in
          let c = each_at (λ j. cell_sound x (first_before j b.records unmapped)) 0 x.sizes.l
          (sym (all-each (λ j. cell_sound x (first_before j b.records unmapped)) x.sizes.l) ∙ s') l (omega arith) h in
          rw (takes_first p l b.records w.1) at c

      go : (t : Bool) → eqb b.volume v ≡ t
          → taken_at p (retention_of x v) x.day l (when t then b ∷ slots_in v bs else slots_in v bs) ≡ true
          → taken_sound x b ≡ true → (taken_at p (retention_of x v) x.day l (slots_in v bs) ≡ true
          → cell_sound x p ≡ true) → cell_sound x p ≡ true
      go false q f s ih = ih f
      go true q f s ih =
          pick (or_cases (leb x.day (due_of (retention_of x v) b) && takes p l b.records)
          (taken_at p (retention_of x v) x.day l (slots_in v bs)) f)
        where
          pick : ((leb x.day (due_of (retention_of x v) b) && takes p l b.records) ≡ true)
              ⊎ (taken_at p (retention_of x v) x.day l (slots_in v bs) ≡ true) → cell_sound x p ≡ true
          pick (inl a) = here (eqb-true b.volume v q) a s
          pick (inr a) = ih a

  -- what every backup that took a block away says of it
  abbrev Held : List Backup → Type 0
  Held bs =
      (p v l : ℕ) → v < volumes → l < x.sizes.l → p ≢ unmapped
      → taken_at p (retention_of x v) x.day l (slots_in v bs) ≡ true → cell_sound x p ≡ true

  held-taken : (bs : List Backup) → all (λ b. ltb b.volume volumes) bs ≡ true → Held bs → all (taken_sound x) bs ≡ true
  unfolding taken_sound
  held-taken [] ok h = refl
  held-taken (b ∷ bs) ok h =
      let w = and_true (ltb b.volume volumes) (all (λ b. ltb b.volume volumes) bs) ok in
      true_and (taken_sound x b) (all (taken_sound x) bs)
      (first (ltb-true b.volume volumes w.0) (leb x.day (due_of (retention_of x b.volume) b)) refl)
      (held-taken bs w.1 (λ p v l hv hl n e. h p v l hv hl n (later p v l (eqb b.volume v) e)))
    where
      later : (p v l : ℕ) (t : Bool) → taken_at p (retention_of x v) x.day l (slots_in v bs) ≡ true
          → taken_at p (retention_of x v) x.day l (when t then b ∷ slots_in v bs else slots_in v bs) ≡ true
      later p v l false e = e
      later p v l true e =
          or_r (leb x.day (due_of (retention_of x v) b) && takes p l b.records)
          (taken_at p (retention_of x v) x.day l (slots_in v bs)) e

      first : b.volume < volumes → (t : Bool) → leb x.day (due_of (retention_of x b.volume) b) ≡ t
          → (not t || all (λ l. cell_sound x (first_before l b.records unmapped)) (up_from 0 x.sizes.l)) ≡ true
      first hv false e = refl
      first hv true e =
          all-up_from (λ l. cell_sound x (first_before l b.records unmapped)) 0 x.sizes.l
          (λ l _ hl. let p = first_before l b.records unmapped in
          sound-unless p (λ f. let n = unsound_mapped p f in
          not_both (cell_sound x p) (h p b.volume l hv (omega arith) n (taken p l (first-takes p l b.records n refl))) f))
        where
          taken : (p l : ℕ) → takes p l b.records ≡ true
              → taken_at p (retention_of x b.volume) x.day l (slots_in b.volume (b ∷ bs)) ≡ true
          taken p l a =
              rw (eq-eqb b.volume b.volume refl)
              (or_l (leb x.day (due_of (retention_of x b.volume) b) && takes p l b.records)
              (taken_at p (retention_of x b.volume) x.day l (slots_in b.volume bs))
              (true_and (leb x.day (due_of (retention_of x b.volume) b)) (takes p l b.records) e a))

  -- ---- the law

  module _ (g : Replayed x) (current : current_sound x ≡ true) where
    abbrev none : List ℕ
    none = replicate x.sizes.l unmapped

    abbrev images : ℕ → List Taken
    images v = images_of none (slots_in v (journal x))

    -- a kept backup has p at l exactly when the current map has, or a backup that reaches the day took it away
    kept-or-taken : (p v l : ℕ) → v < volumes → p ≢ unmapped
        → kept_at p (retention_of x v) x.day l (images v)
        ≡ (eqb p (cell_at x.maps v l) || taken_at p (retention_of x v) x.day l (slots_in v (journal x)))
    kept-or-taken p v l hv n =
        rw (g.maps v hv) at
        (kept-cell p (retention_of x v) x.day l x.sizes.l x.day (slots_in v (journal x)) n (g.sounds v hv) (g.days v)
        (backups-linked x v))

    image-cell : (v k l : ℕ) → v < volumes → k < length (slots_in v (journal x))
        → image x v (suc k) l ≡ get_or (get_or (maps_of (images v)) k none) l unmapped
    unfolding image slots_of
    image-cell v k l hv h =
        ap (λ m. first_before l (records_of (drop (suc k) (slots_in v (journal x)))) (get_or m l unmapped)) (sym (g.maps v hv))
        ∙ read_rule l k none none (slots_in v (journal x)) (g.sounds v hv) h

    days_images : (v : ℕ) → days x v ≡ days_of (images v)
    unfolding days slots_of
    days_images v = sym (days_images_of none (slots_in v (journal x)))

    count_images : (v : ℕ) → length (days x v) ≡ length (maps_of (images v))
    unfolding days slots_of
    count_images v =
        length-map (slots_in v (journal x)) (λ b. b.day) ∙ sym (length_images_of none (slots_in v (journal x)))

    current-cell : (v l : ℕ) → cell_sound x (cell_at x.maps v l) ≡ true
    unfolding current_sound cell_sound
    current-cell v l =
        all_get_d (cell_sound x) (get_or x.maps v []) unmapped l (all_get_d (all (cell_sound x)) x.maps [] v current refl) refl

    -- every image of a kept backup is sound, where the taken blocks are held
    image-sound : all (taken_sound x) (journal x) ≡ true → (v k l : ℕ) → v < volumes → k < length (days x v) → l < x.sizes.l
        → kept (days x v) (retention_of x v) x.day (suc k) ≡ true → cell_sound x (image x v (suc k) l) ≡ true
    image-sound ok v k l hv hk hl e =
        let p = image x v (suc k) l in
        let hk' : k < length (maps_of (images v)) = omega (arith, count_images v) in
        let hk'' : k < length (slots_in v (journal x)) = omega (arith, length_images_of none (slots_in v (journal x))) in
        sound-unless p (λ f. let n = unsound_mapped p f in
        let a = number-kept p (retention_of x v) x.day l k none (images v) (images_of_ends none (slots_in v (journal x)))
        (hk', rw (days_images v) at e, eq-eqb p (get_or (get_or (maps_of (images v)) k none) l unmapped) (image-cell v k l hv hk'')) in
        not_both (cell_sound x p) (pick p v l hl
        (or_cases (eqb p (cell_at x.maps v l)) (taken_at p (retention_of x v) x.day l (slots_in v (journal x)))
        (sym (kept-or-taken p v l hv n) ∙ a))) f)
      where
        pick : (p v l : ℕ) → l < x.sizes.l
            → (eqb p (cell_at x.maps v l) ≡ true)
            ⊎ (taken_at p (retention_of x v) x.day l (slots_in v (journal x)) ≡ true) → cell_sound x p ≡ true
        pick p v l hl (inl a) = ap (cell_sound x) (eqb-true p (cell_at x.maps v l) a) ∙ current-cell v l
        pick p v l hl (inr a) = taken-held p v l (journal x) hl ok a

    -- the image behind a slot is sound: a kept backup's, or the current map behind the retirement
    slot-sound : (v k l : ℕ) → k < length (days x v) → l < x.sizes.l → all (backup_sound x v) (up_from 1 (backup_count x v)) ≡ true
        → kept (days x v) (retention_of x v) x.day (suc k) ≡ true → cell_sound x (image x v (suc k) l) ≡ true
    unfolding backup_sound
    slot-sound v k l hk hl row e = go (ltb k (backup_count x v)) refl
      where
        go : (t : Bool) → ltb k (backup_count x v) ≡ t → cell_sound x (image x v (suc k) l) ≡ true
        go true f =
            let b = ltb-true k (backup_count x v) f in
            let s = up_from-all (backup_sound x v) 1 (backup_count x v) row (suc k) (omega arith) (omega arith) in
            let cells : all (λ j. cell_sound x (image x v (suc k) j)) (up_from 0 x.sizes.l) ≡ true = rw e at s in
            up_from-all (λ j. cell_sound x (image x v (suc k) j)) 0 x.sizes.l cells l (omega arith) (omega arith)
        go false f =
            let b = ltb-false k (backup_count x v) f in
            ap (cell_sound x) (image-end x v (suc k) l (omega (arith, count_next x v (g.ends v)))) ∙ current-cell v l

    -- .. and the taken blocks are held, where every image of a kept backup is sound
    block_held : backups_sound x ≡ true → Held (journal x)
    unfolding backups_sound backup_sound
    block_held ok p v l hv hl n e =
        let r = retention_of x v in
        let a = kept-or-taken p v l hv n ∙ or_r (eqb p (cell_at x.maps v l)) (taken_at p r x.day l (slots_in v (journal x))) e in
        let w = kept-number p r x.day l none (images v) (images_of_ends none (slots_in v (journal x))) a in
        let k = w.0 in
        let hk : k < length (days x v) = omega (arith, count_images v, w.1.0) in
        let hb : k < length (slots_in v (journal x)) = omega (arith, length_images_of none (slots_in v (journal x)), w.1.0) in
        let row = each_at (λ v. all (backup_sound x v) (up_from 1 (backup_count x v))) 0 volumes
        (sym (all-each (λ v. all (backup_sound x v) (up_from 1 (backup_count x v))) volumes) ∙ ok) v (omega arith) hv in
        let c = slot-sound v k l hk hl row (rw (days_images v) w.1.1) in
        ap (cell_sound x) (eqb-true p (get_or (get_or (maps_of (images v)) k none) l unmapped) w.1.2 ∙ sym (image-cell v k l hv hb)) ∙ c

    pub kept-befores : all (taken_sound x) (journal x) ≡ backups_sound x
    unfolding backups_sound backup_sound
    kept-befores =
        same_test (all (taken_sound x) (journal x)) (backups_sound x)
        (λ ok. all-up_from (λ v. all (backup_sound x v) (up_from 1 (backup_count x v))) 0 volumes
        (λ v _ hv. all-up_from (backup_sound x v) 1 (backup_count x v) (λ k i j. at ok v k (omega arith) i (omega (arith, count-within x v)))))
        (λ ok. held-taken (journal x) g.volumes (block_held ok))
      where
        at : all (taken_sound x) (journal x) ≡ true → (v k : ℕ) → v < volumes → 1 ≤ k → k < suc (length (days x v))
            → backup_sound x v k ≡ true
        at ok v zero hv i j = absurd (omega arith)
        at ok v (suc k) hv i j = go (kept (days x v) (retention_of x v) x.day (suc k)) refl
          where
            go : (t : Bool) → kept (days x v) (retention_of x v) x.day (suc k) ≡ t
                → (not t || all (λ l. cell_sound x (image x v (suc k) l)) (up_from 0 x.sizes.l)) ≡ true
            go false e = refl
            go true e =
                all-up_from (λ l. cell_sound x (image x v (suc k) l)) 0 x.sizes.l
                (λ l _ hl. image-sound ok v k l hv (omega arith) (omega arith) e)
