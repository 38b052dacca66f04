-- A backup of the plain store keeps what its volumes sent.
use Prim.Native.Nat.{ℕ, suc, ◌≤◌}
use mathlib.Core.Path.{◌≡◌, refl, sym, ap, ◌∙◌}
use mathlib.Core.Logic.{◌⊎◌, inl, inr}
use mathlib.Core.Bool.{Bool, true, false, ◌&&◌}
use mathlib.Core.List.{List, [], ◌∷◌, ◌++◌, map, append-nil}
use mathlib.Core.Option.{Option}
use native.Mathlib.Numerals.{add-one}
use native.Mathlib.Omega.{arith}
use native.Mathlib.Nat.{le_refl}
use lib.Dec.{ltb, eqb}
use lib.ListN.{length, get_or, length-append}
use borrow.Author.Tests.{ltb-true, ltb-false}
use Rattle.words.specs.Blocks.{unmapped}
use Rattle.words.specs.Choice.{when◌then◌else◌}
use Rattle.words.proofs.Appends.{map_append}
use Rattle.words.specs.Outcome.{accepted}
use Rattle.runs.specs.Changes.{Change}
use Rattle.model.specs.Days.{kept}
use Rattle.model.specs.Plain.{Block, image, Taken, Plain, at_day, with_blocks, with_taken, retention_at, taken_of, days_of, maps_of}
use Rattle.model.specs.Plain.{is_retired, current_of}
use Rattle.model.specs.PlainBackup.{PlainWork, run_changes, begun, closed}
use Rattle.model.specs.History.{Sent, History, with_sent, days_noted, sent_block}
use Rattle.claims.proofs.kept.DayLaws.{kept_newest}
use Rattle.claims.proofs.kept.TakenLaws.{maps_append, living-backups, backups-then}
use Rattle.claims.proofs.plain.HistoryLaws.{sent-earlier, sent_newest}
use Rattle.claims.proofs.plain.PlainShows.{Maps, Carries, maps-same, carries_same}
use Rattle.claims.proofs.plain.PlainPlacing.{grown-self}
use Rattle.claims.proofs.plain.PlainChanges.{sent_over, Copies, run-copies}
use Rattle.claims.proofs.plain.PlainRecalls.{image_at, Recalls, AllRecall, living-days, current-image, image-earlier}
use Rattle.claims.proofs.plain.PlainRecalls.{image_newest, days-longer, kept-before, recalls_later, each-taken}

-- ---- one more image, which shows what its changes sent, or else what the one before it shows

module _ (l t v n : ℕ) (bs : List Block) (span : ℕ) (is : List Taken) (h : History) (cells : List ℕ) (cs : List Change)
    (r : Recalls l t bs span is h) where
  abbrev added : Taken
  added = record { volume = v; day = t; what = image cells; changes = n }

  abbrev sending : Sent
  sending = record { day = t; changes = cs }

  abbrev shown : ℕ → Option (List ℕ)
  shown = sent_over cs (sent_block h (length (maps_of is)))

  longer : length (maps_of (is ++ (added ∷ []))) ≡ suc (length (maps_of is))
  longer = ap length (maps_append is (added ∷ [])) ∙ length-append (maps_of is) (cells ∷ []) ∙ add-one (length (maps_of is))

  newest_sent : (lbn : ℕ) → shown lbn ≡ sent_block (with_sent sending h) (suc (length (maps_of is))) lbn
  newest_sent lbn = rw (← r.count) (sym (sent_newest h sending lbn))

  earlier-sent : (k lbn : ℕ) → k ≤ length (maps_of is) → sent_block h k lbn ≡ sent_block (with_sent sending h) k lbn
  earlier-sent k lbn e = sym (sent-earlier h sending k lbn (rw r.count e))

  -- a number is an earlier one, or the new one
  number-cases : (k : ℕ) → k ≤ length (maps_of (is ++ (added ∷ []))) → (k ≤ length (maps_of is)) ⊎ (k ≡ suc (length (maps_of is)))
  number-cases k e = go (ltb (length (maps_of is)) k) refl
    where
      go : (b : Bool) → ltb (length (maps_of is)) k ≡ b → (k ≤ length (maps_of is)) ⊎ (k ≡ suc (length (maps_of is)))
      go true f = inr (omega (arith, longer, ltb-true (length (maps_of is)) k f))
      go false f = inl (ltb-false (length (maps_of is)) k f)

  added_maps : Maps l cells shown → (k : ℕ) → (k ≤ length (maps_of is)) ⊎ (k ≡ suc (length (maps_of is)))
      → Maps l (image_at l (is ++ (added ∷ [])) k) (sent_block (with_sent sending h) k)
  added_maps maps k (inl e) =
      maps-same l (image_at l is k) (image_at l (is ++ (added ∷ [])) k) (sent_block h k) (sent_block (with_sent sending h) k)
      (sym (image-earlier l is added k e)) (λ lbn. earlier-sent k lbn e) (r.maps k e)
  added_maps maps k (inr e) =
      rw e
      (maps-same l cells (image_at l (is ++ (added ∷ [])) (suc (length (maps_of is)))) shown
      (sent_block (with_sent sending h) (suc (length (maps_of is)))) (sym (image_newest l is added cells refl)) newest_sent maps)

  added_carries : Carries l bs cells shown → (k : ℕ) → (k ≤ length (maps_of is)) ⊎ (k ≡ suc (length (maps_of is)))
      → kept (days_of (is ++ (added ∷ []))) span t k ≡ true
      → Carries l bs (image_at l (is ++ (added ∷ [])) k) (sent_block (with_sent sending h) k)
  added_carries carries k (inl e) f =
      carries_same l (image_at l is k) (image_at l (is ++ (added ∷ [])) k) (sent_block h k) (sent_block (with_sent sending h) k)
      (sym (image-earlier l is added k e)) (λ lbn. earlier-sent k lbn e) bs
      (r.carries k e (kept-before is added span t k e f))
  added_carries carries k (inr e) f =
      rw e
      (carries_same l cells (image_at l (is ++ (added ∷ [])) (suc (length (maps_of is)))) shown
      (sent_block (with_sent sending h) (suc (length (maps_of is)))) (sym (image_newest l is added cells refl)) newest_sent bs carries)

  -- no day of a retirement stands behind those of the backups
  days-sent : is_retired is ≡ false → days_of (is ++ (added ∷ [])) ≡ days_noted (with_sent sending h)
  unfolding with_sent
  days-sent living =
      days-longer is added
      ∙ ap (λ (ds : List ℕ). ds ++ (t ∷ [])) (r.days ∙ none_left h.sent)
      ∙ sym (map_append (λ (s : Sent). s.day) h.sent (sending ∷ []))
      ∙ sym (none_left (h.sent ++ (sending ∷ [])))
    where
      none_left : (ss : List Sent) → map (λ (s : Sent). s.day) ss ++ h.left ≡ map (λ (s : Sent). s.day) ss
      none_left ss = rw (r.stays living) (append-nil (map (λ (s : Sent). s.day) ss))

  recalls_added : (span ≡ 0 → ⊥) → is_retired is ≡ false → length cells ≡ l → Maps l cells shown → Carries l bs cells shown
      → Recalls l t bs span (is ++ (added ∷ [])) (with_sent sending h)
  unfolding with_sent
  recalls_added used living wide maps carries = record {
    retention = r.retention;
    ends = backups-then is added (living-backups is living);
    days = days-sent living;
    count = length-append h.sent (sending ∷ []) ∙ add-one (length h.sent) ∙ ap suc r.count ∙ sym longer;
    stays = λ e. r.stays living;
    unused = λ e. absurd (used e);
    wide = rw (longer, image_newest l is added cells refl) wide;
    maps = λ k e. added_maps maps k (number-cases k e);
    carries = λ k e. added_carries carries k (number-cases k e);
  }

-- ---- the whole call

module _ {l d : ℕ} {q : Plain} {h : ℕ → History} (a : AllRecall l d q h) (v : ℕ)
    (living : is_retired (taken_of v q.taken) ≡ false) where
  abbrev images : List Taken
  images = taken_of v q.taken

  abbrev was : ℕ → Option (List ℕ)
  was = sent_block (h v) (length (maps_of images))

  copy-begun : current_of q v ≡ image_at l images (length (maps_of images))
  copy-begun = current-image q.sizes images living ∙ ap (λ (m : ℕ). image_at m images (length (maps_of images))) a.logical

  begun-copies : Copies l q.blocks was (begun q v)
  unfolding begun
  begun-copies =
      let r = a.each v in
      let newest : kept (days_of images) (retention_at q v) d (length (maps_of images)) ≡ true =
      kept_newest (days_of images) (retention_at q v) d (length (maps_of images))
      (rw (← (living-days images living)) (le_refl (length (maps_of images)))) in
      let maps = r.maps (length (maps_of images)) (le_refl (length (maps_of images))) in
      let carries = r.carries (length (maps_of images)) (le_refl (length (maps_of images))) newest in
      record {
        grown = grown-self q.blocks;
        wide = ap length copy-begun ∙ r.wide;
        maps =
            maps-same l (image_at l images (length (maps_of images))) (current_of q v) was was (sym copy-begun)
            (λ lbn. refl) maps;
        carries =
            carries_same l (image_at l images (length (maps_of images))) (current_of q v) was was (sym copy-begun) (λ lbn. refl)
            q.blocks carries;
      }

  module _ (t n : ℕ) (cs : List Change) (w : PlainWork) (later : d ≤ t) (c : Copies l q.blocks (sent_over cs was) w) where
    enough : length w.blocks ≤ unmapped
    enough = rw c.grown.long a.room

    others_recall : (x : ℕ) → Recalls l t w.blocks (retention_at q x) (taken_of x q.taken) (h x)
    others_recall x =
        recalls_later l d t q.blocks w.blocks (retention_at q x) (taken_of x q.taken) (h x) later enough
        (λ k lbn b hk e s z. c.grown.keeps (get_or (image_at l (taken_of x q.taken) k) lbn unmapped) b z)
        (a.each x)

    abbrev new : Taken
    new = record { volume = v; day = t; what = image w.copy; changes = n }

    closed_recalls : (retention_at q v ≡ 0 → ⊥)
        → AllRecall l t (closed q v t n w).store (λ x. when eqb v x && true then with_sent (record { day = t; changes = cs }) (h x) else h x)
    unfolding closed at_day with_blocks with_taken
    closed_recalls used = record {
      logical = a.logical;
      day = refl;
      room = enough;
      volume_count = a.volume_count;
      each =
          each-taken l t w.blocks q h new (with_sent (record { day = t; changes = cs })) others_recall
          (recalls_added l t v n w.blocks (retention_at q v) images (h v) w.copy cs (others_recall v) used living c.wide c.maps
          c.carries);
    }

  pub backup_recalls : (t n : ℕ) (cs : List Change) (w : PlainWork) → d ≤ t → (retention_at q v ≡ 0 → ⊥)
      → run_changes cs (begun q v) ≡ accepted w
      → AllRecall l t (closed q v t n w).store (λ x. when eqb v x && true then with_sent (record { day = t; changes = cs }) (h x) else h x)
  backup_recalls t n cs w later used e =
      closed_recalls t n cs w later (run-copies l q.blocks a.room cs was (begun q v) w begun-copies e) used
