-- Enrol and collect of the plain store keep what its volumes sent, and so it starts.
use Prim.Native.Nat.{ℕ, zero, suc, ◌≤◌, ◌<◌}
use mathlib.Core.Path.{◌≡◌, refl, sym, ap, subst, ◌∙◌}
use mathlib.Core.Bool.{Bool, true, false, ◌&&◌}
use mathlib.Core.List.{List, []}
use mathlib.Core.Option.{none, some}
use native.Mathlib.Omega.{arith}
use lib.Dec.{ltb, eqb}
use lib.ListN.{length, get_or, set, replicate, length-set, length-replicate, get_or-eq_default}
use lib.Seq.{get_or-set_same, get_or-set_other}
use borrow.Author.Tests.{ltb-true, ltb-false, eq-eqb, eqb-true, eqb-false}
use Rattle.words.specs.Blocks.{unmapped}
use Rattle.words.specs.Choice.{when◌then◌else◌}
use Rattle.words.proofs.Options.{none_not}
use Rattle.words.proofs.Places.{get_or_replicated}
use Rattle.book.specs.Book.{volumes, Sizes}
use Rattle.model.specs.Days.{kept}
use Rattle.model.specs.Plain.{Block, free, Taken, Plain, start, at_day, with_blocks, with_retention, retention_at, taken_of, days_of, maps_of}
use Rattle.model.specs.Plain.{is_retired, marked, swept, collected}
use Rattle.model.specs.History.{History, no_history, with_enrol, days_noted, sent_block}
use Rattle.claims.proofs.plain.PlainShows.{held_bytes, shown_at, shown-past, Maps, Carries}
use Rattle.claims.proofs.kept.KeptNames.{cell-names}
use Rattle.claims.proofs.plain.PlainMarks.{kept-marked, length-swept, swept-marked}
use Rattle.claims.proofs.plain.PlainRecalls.{image_at, Recalls, AllRecall, recalls_later}

-- nothing is sent before backup 1
none-sent : (h : History) (lbn : ℕ) → sent_block h 0 lbn ≡ none
unfolding sent_block
none-sent h lbn = refl

-- a volume of which nothing was taken and nothing was sent
module _ (l d span : ℕ) (bs : List Block) (h : History) (room : length bs ≤ unmapped) where
  no-maps : (k : ℕ) → k ≤ 0 → Maps l (image_at l [] k) (sent_block h k)
  no-maps zero e lbn i = rw (get_or_replicated l unmapped lbn, none-sent h lbn)
  no-maps (suc k) e lbn i = absurd (omega arith)

  no-carries : (k : ℕ) → k ≤ 0 → Carries l bs (image_at l [] k) (sent_block h k)
  no-carries zero e lbn i = rw (get_or_replicated l unmapped lbn, none-sent h lbn) (shown-past bs unmapped room)
  no-carries (suc k) e lbn i = absurd (omega arith)

  none_recalls : span ≡ h.retention → [] ≡ days_noted h → length h.sent ≡ 0 → h.left ≡ [] → Recalls l d bs span [] h
  none_recalls e days unsent stays = record {
    retention = e;
    ends = tt;
    days = days;
    count = unsent;
    stays = λ f. stays;
    unused = λ z. refl;
    wide = length-replicate l unmapped;
    maps = no-maps;
    carries = λ k i z. no-carries k i;
  }

-- ---- the start

pub start_recalls : (z : Sizes) → z.n ≤ unmapped → AllRecall z.l 0 (start z) (λ v. no_history)
unfolding start no_history
start_recalls z room =
    let enough : length (replicate z.n free) ≤ unmapped = rw length-replicate room in
    record {
      logical = refl;
      day = refl;
      room = enough;
      volume_count = refl;
      each = λ v.
          rw (get_or_replicated {A = ℕ} volumes 0 v)
          (none_recalls z.l 0 0 (replicate z.n free) no_history enough refl refl refl refl);
    }

-- ---- collect

module _ {l d : ℕ} {q : Plain} {h : ℕ → History} (a : AllRecall l d q h) where
  -- of a volume that isn't there nothing was taken
  volume-there : (v k : ℕ) → k < length (maps_of (taken_of v q.taken)) → v < volumes
  volume-there v k i = go (ltb v volumes) refl
    where
      go : (t : Bool) → ltb v volumes ≡ t → v < volumes
      go true e = ltb-true v volumes e
      go false e =
          let past : length q.retentions ≤ v = omega (arith, a.volume_count, ltb-false v volumes e) in
          let none = (a.each v).unused (get_or-eq_default q.retentions 0 past) in
          absurd (omega (arith, ap (λ (is : List Taken). length (maps_of is)) none))

  -- what a map kept at t shows is marked, and stays
  marked-stays : (t v k lbn : ℕ) (b : List ℕ) → k ≤ length (maps_of (taken_of v q.taken))
      → kept (days_of (taken_of v q.taken)) (retention_at q v) t k ≡ true → sent_block (h v) k lbn ≡ some b
      → shown_at q.blocks (get_or (image_at l (taken_of v q.taken) k) lbn unmapped) ≡ some b
      → shown_at (swept (marked q t) 0 q.blocks) (get_or (image_at l (taken_of v q.taken) k) lbn unmapped) ≡ some b
  marked-stays t v zero lbn b hk e s z = absurd (none_not b (sym (none-sent (h v) lbn) ∙ s))
  marked-stays t v (suc k) lbn b hk e s z =
      let m = get_or (maps_of (taken_of v q.taken)) k (replicate l unmapped) in
      let p = get_or m lbn unmapped in
      let n : p ≡ unmapped → ⊥ = λ f. not_unmapped p f z in
      ap held_bytes (swept-marked (marked q t) p q.blocks
      (kept-marked q t v k p (replicate l unmapped) (volume-there v k hk) (a.each v).ends hk e
      (cell-names p lbn m n (eq-eqb p p refl))))
      ∙ z
    where
      not_unmapped : (p : ℕ) → p ≡ unmapped → shown_at q.blocks p ≡ some b → ⊥
      not_unmapped p f z =
          let o : shown_at q.blocks p ≡ none = rw f (shown-past q.blocks unmapped a.room) in none_not b (sym o ∙ z)

  pub collect_recalls : (t : ℕ) → d ≤ t → AllRecall l t (collected q t).store h
  unfolding collected at_day with_blocks
  collect_recalls t later =
      let room : length (swept (marked q t) 0 q.blocks) ≤ unmapped = rw length-swept a.room in
      record {
        logical = a.logical;
        day = refl;
        room = room;
        volume_count = a.volume_count;
        each = λ v.
            recalls_later l d t q.blocks (swept (marked q t) 0 q.blocks) (retention_at q v) (taken_of v q.taken) (h v) later room
            (marked-stays t v) (a.each v);
      }

  -- ---- enrol

  enrolled_recalls : (v r : ℕ) → retention_at q v ≡ 0 → Recalls l d q.blocks r (taken_of v q.taken) (with_enrol r (h v))
  unfolding with_enrol
  enrolled_recalls v r e =
      let none = (a.each v).unused e in
      let days : [] ≡ days_noted (h v) = sym (ap (λ (is : List Taken). days_of is) none) ∙ (a.each v).days in
      let unsent : length (h v).sent ≡ 0 = (a.each v).count ∙ ap (λ (is : List Taken). length (maps_of is)) none in
      let stays : (h v).left ≡ [] = (a.each v).stays (ap (λ (is : List Taken). is_retired is) none) in
      subst (λ (is : List Taken). Recalls l d q.blocks r is (with_enrol r (h v))) (sym none)
      (none_recalls l d r q.blocks (with_enrol r (h v)) a.room refl days unsent stays)

  pub enrol_recalls : (v r : ℕ) → v < volumes → retention_at q v ≡ 0
      → AllRecall l d (with_retention v r q) (λ x. when eqb v x && true then with_enrol r (h x) else h x)
  unfolding with_retention
  enrol_recalls v r inside e = record {
    logical = a.logical;
    day = a.day;
    room = a.room;
    volume_count = length-set q.retentions v r ∙ a.volume_count;
    each = λ w. go w (eqb v w) refl;
  }
    where
      there : v < length q.retentions
      there = rw a.volume_count inside

      go : (w : ℕ) (t : Bool) → eqb v w ≡ t
          → Recalls l d q.blocks (get_or (set q.retentions v r) w 0) (taken_of w q.taken) (when t && true then with_enrol r (h w) else h w)
      go w true f =
          subst (λ (x : ℕ). Recalls l d q.blocks (get_or (set q.retentions v r) x 0) (taken_of x q.taken) (with_enrol r (h x)))
          (eqb-true v w f)
          (rw (get_or-set_same q.retentions v r 0 there) (enrolled_recalls v r e))
      go w false f = rw (get_or-set_other q.retentions v w r 0 (λ g. eqb-false v w f (sym g))) (a.each w)
