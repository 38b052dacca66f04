-- A retirement of the plain store keeps what its volumes sent: "its newest map stops being current and stays in the list" (document 02, K6).
use Prim.Native.Nat.{ℕ, ◌≤◌}
use mathlib.Core.Path.{◌≡◌, refl, sym, ap, ◌∙◌}
use mathlib.Core.Bool.{true, false, ◌&&◌}
use mathlib.Core.List.{List, [], ◌∷◌, ◌++◌, map, append-nil, append_assoc}
use lib.Dec.{eqb}
use lib.ListN.{length}
use Rattle.words.specs.Choice.{when◌then◌else◌}
use Rattle.words.proofs.Appends.{some_of_append}
use Rattle.words.proofs.ChoiceLaws.{or_r, not_both}
use Rattle.model.specs.Plain.{Block, retirement, Taken, Plain, at_day, with_taken, retention_at, taken_of, days_of, maps_of, is_retirement}
use Rattle.model.specs.Plain.{is_retired}
use Rattle.model.specs.PlainRetire.{cells_of, retired}
use Rattle.model.specs.History.{Sent, History, with_left, days_noted, sent_block}
use Rattle.claims.proofs.kept.TakenLaws.{maps_append, living-backups, backups-then}
use Rattle.claims.proofs.plain.PlainRecalls.{Recalls, AllRecall, days-longer, kept-before, recalls_later, each-taken}

-- ---- its own volume: the maps stay, and one more day stands behind theirs

module _ (l t v n : ℕ) (bs : List Block) (span : ℕ) (is : List Taken) (h : History) (r : Recalls l t bs span is h) where
  abbrev leaving : Taken
  leaving = record { volume = v; day = t; what = retirement; changes = n }

  same-maps : maps_of (is ++ (leaving ∷ [])) ≡ maps_of is
  same-maps = maps_append is (leaving ∷ []) ∙ append-nil (maps_of is)

  days-left : days_of (is ++ (leaving ∷ [])) ≡ days_noted (with_left t h)
  unfolding with_left
  days-left =
      days-longer is leaving
      ∙ ap (λ (ds : List ℕ). ds ++ (t ∷ [])) r.days
      ∙ append_assoc (map (λ (s : Sent). s.day) h.sent) h.left (t ∷ [])

  now-retired : is_retired (is ++ (leaving ∷ [])) ≡ true
  now-retired = some_of_append (λ (i : Taken). is_retirement i.what) is (leaving ∷ []) ∙ or_r (is_retired is) true refl

  recalls_left : (span ≡ 0 → ⊥) → is_retired is ≡ false → Recalls l t bs span (is ++ (leaving ∷ [])) (with_left t h)
  unfolding with_left sent_block
  recalls_left used living = record {
    retention = r.retention;
    ends = backups-then is leaving (living-backups is living);
    days = days-left;
    count = r.count ∙ sym (ap length same-maps);
    stays = λ e. absurd (not_both (is_retired (is ++ (leaving ∷ []))) now-retired e);
    unused = λ e. absurd (used e);
    wide = rw same-maps r.wide;
    maps = rw same-maps r.maps;
    carries = λ k e f. rw same-maps (r.carries k (rw same-maps at e) (kept-before is leaving span t k (rw same-maps at e) f));
  }

-- ---- the whole call: for every other volume the day is later, and that is all

pub retire_recalls : {l d : ℕ} {q : Plain} {h : ℕ → History} (a : AllRecall l d q h) (v t : ℕ) → d ≤ t → (retention_at q v ≡ 0 → ⊥)
    → is_retired (taken_of v q.taken) ≡ false
    → AllRecall l t (retired q v t).store (λ x. when eqb v x && true then with_left t (h x) else h x)
unfolding retired at_day with_taken
retire_recalls {l} {d} {q} {h} a v t later used living = record {
  logical = a.logical;
  day = refl;
  room = a.room;
  volume_count = a.volume_count;
  each =
      each-taken l t q.blocks q h (leaving l t v (cells_of q v) q.blocks (retention_at q v) (taken_of v q.taken) (h v) (others v))
      (with_left t) others
      (recalls_left l t v (cells_of q v) q.blocks (retention_at q v) (taken_of v q.taken) (h v) (others v) used living);
}
  where
    others : (x : ℕ) → Recalls l t q.blocks (retention_at q x) (taken_of x q.taken) (h x)
    others x =
        recalls_later l d t q.blocks q.blocks (retention_at q x) (taken_of x q.taken) (h x) later a.room
        (λ k lbn b hk e s z. z) (a.each x)
