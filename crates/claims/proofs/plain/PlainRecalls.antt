-- Where the plain store stands alike with what its volumes sent: what every call keeps.
use Prim.Native.Nat.{ℕ, suc, ◌≤◌}
use mathlib.Core.Path.{◌≡◌, refl, sym, ap, subst, ◌∙◌}
use mathlib.Core.Bool.{Bool, true, false, ◌&&◌}
use mathlib.Core.List.{List, [], ◌∷◌, ◌++◌, append-nil}
use mathlib.Core.Option.{some}
use native.Mathlib.Omega.{arith}
use lib.Dec.{eqb}
use lib.ListN.{length, get_or, replicate, length-map, get_or-append}
use lib.Seq.{get_or_at}
use borrow.Author.Tests.{eqb-true}
use Rattle.words.specs.Blocks.{unmapped}
use Rattle.words.specs.Choice.{when◌then◌else◌}
use Rattle.words.specs.Lists.{last_of}
use Rattle.words.proofs.Appends.{those_append, map_append}
use Rattle.book.specs.Book.{volumes, Sizes}
use Rattle.model.specs.Days.{kept}
use Rattle.model.specs.Plain.{Block, image, Taken, Plain, retention_at, taken_of, days_of, maps_of, is_retired, no_map}
use Rattle.model.specs.Plain.{current}
use Rattle.model.specs.History.{History, days_noted, sent_block}
use Rattle.claims.proofs.kept.TakenLaws.{Ends, maps_append, maps-within, living-backups, backups-leave, backups-count}
use Rattle.claims.proofs.plain.HistoryLaws.{kept-earlier, kept-shorter}
use Rattle.claims.proofs.plain.PlainShows.{shown_at, Maps, Carries, carries_over}

-- the map after backup k, all unmapped for k = 0
abbrev pub image_at : ℕ → List Taken → ℕ → List ℕ
image_at l is k = get_or (replicate l unmapped ∷ maps_of is) k (replicate l unmapped)

-- ---- what was taken of a volume and its history, where the store has blocks bs and day d and the volume keeps `span` days: there are as many
-- maps as backups were sent, every map is mapped where something was sent, and a kept one shows what was sent
pub record Recalls (l d : ℕ) (bs : List Block) (span : ℕ) (is : List Taken) (h : History) : Type 0 where
  pub retention : span ≡ h.retention
  pub ends : Ends is
  pub days : days_of is ≡ days_noted h
  pub count : length h.sent ≡ length (maps_of is)
  pub stays : is_retired is ≡ false → h.left ≡ []
  pub unused : span ≡ 0 → is ≡ []
  pub wide : length (image_at l is (length (maps_of is))) ≡ l
  pub maps : (k : ℕ) → k ≤ length (maps_of is) → Maps l (image_at l is k) (sent_block h k)
  pub carries : (k : ℕ) → k ≤ length (maps_of is) → kept (days_of is) span d k ≡ true → Carries l bs (image_at l is k) (sent_block h k)

-- the store and the histories of all volumes; a volume above 7 has none
pub record AllRecall (l d : ℕ) (q : Plain) (h : ℕ → History) : Type 0 where
  pub logical : q.sizes.l ≡ l
  pub day : q.day ≡ d
  pub room : length q.blocks ≤ unmapped
  pub volume_count : length q.retentions ≡ volumes
  pub each : (v : ℕ) → Recalls l d q.blocks (retention_at q v) (taken_of v q.taken) (h v)

-- the days of a volume that isn't retired are those of its maps
pub living-days : (is : List Taken) → is_retired is ≡ false → length (maps_of is) ≡ length (days_of is)
living-days is e = backups-count is (living-backups is e) ∙ sym (length-map is (λ (i : Taken). i.day))

-- ---- images

last-at : {A : Type 0} (d e : A) (xs : List A) → last_of d xs ≡ get_or (d ∷ xs) (length xs) e
last-at d e [] = refl
last-at d e (x ∷ xs) = last-at x e xs

-- the current map of a volume that isn't retired is the newest
pub current-image : (z : Sizes) (is : List Taken) → is_retired is ≡ false → current z is ≡ image_at z.l is (length (maps_of is))
current-image z is e = ap (last_of (no_map z)) (backups-leave z is (living-backups is e)) ∙ last-at (no_map z) (no_map z) (maps_of is)

module _ (l : ℕ) (is : List Taken) (i : Taken) where
  pub image-earlier : (k : ℕ) → k ≤ length (maps_of is) → image_at l (is ++ (i ∷ [])) k ≡ image_at l is k
  image-earlier k h =
      rw maps_append
      (get_or-append (replicate l unmapped ∷ maps_of is) (maps_of (i ∷ [])) (replicate l unmapped) k (omega arith))

  pub image_newest : (m : List ℕ) → i.what ≡ image m → image_at l (is ++ (i ∷ [])) (suc (length (maps_of is))) ≡ m
  image_newest m e =
      rw (maps_append, e) (get_or_at (maps_of is) m [] (replicate l unmapped) (length (maps_of is)) refl)

-- ---- days: nothing that is taken later makes a backup kept longer
module _ (is : List Taken) (i : Taken) where
  pub days-longer : days_of (is ++ (i ∷ [])) ≡ days_of is ++ (i.day ∷ [])
  days-longer = map_append (λ (j : Taken). j.day) is (i ∷ [])

  pub kept-before : (span d k : ℕ) → k ≤ length (maps_of is) → kept (days_of (is ++ (i ∷ []))) span d k ≡ true
      → kept (days_of is) span d k ≡ true
  kept-before span d k h e =
      let inside : k ≤ length (days_of is) = rw length-map (omega (arith, maps-within is)) in
      kept-shorter (days_of is) i.day span d k inside (rw days-longer at e)

-- ---- a later day, and blocks that hold what the maps kept then show
pub recalls_later : (l d t : ℕ) (bs bs' : List Block) (span : ℕ) (is : List Taken) (h : History) → d ≤ t → length bs' ≤ unmapped
    → ((k lbn : ℕ) (b : List ℕ) → k ≤ length (maps_of is) → kept (days_of is) span t k ≡ true → sent_block h k lbn ≡ some b
    → shown_at bs (get_or (image_at l is k) lbn unmapped) ≡ some b
    → shown_at bs' (get_or (image_at l is k) lbn unmapped) ≡ some b)
    → Recalls l d bs span is h → Recalls l t bs' span is h
recalls_later l d t bs bs' span is h later room keeps r = record {
  retention = r.retention;
  ends = r.ends;
  days = r.days;
  count = r.count;
  stays = r.stays;
  unused = r.unused;
  wide = r.wide;
  maps = r.maps;
  carries = λ k hk e.
      carries_over l bs bs' (image_at l is k) (sent_block h k) room (r.maps k hk)
      (r.carries k hk (kept-earlier (days_of is) span d t k later e))
      (λ lbn b hl s z. keeps k lbn b hk e s z);
}

-- ---- one more taken: it stands in its own volume's list, and in no other
pub each-taken : (l d : ℕ) (bs : List Block) (q : Plain) (h : ℕ → History) (i : Taken) (note : History → History)
    → ((x : ℕ) → Recalls l d bs (retention_at q x) (taken_of x q.taken) (h x))
    → Recalls l d bs (retention_at q i.volume) (taken_of i.volume q.taken ++ (i ∷ [])) (note (h i.volume))
    → (x : ℕ) → Recalls l d bs (retention_at q x) (taken_of x (q.taken ++ (i ∷ []))) (when eqb i.volume x && true then note (h x) else h x)
each-taken l d bs q h i note others own x =
    rw (those_append (λ (j : Taken). eqb j.volume x) q.taken (i ∷ [])) (go (eqb i.volume x) refl)
  where
    go : (s : Bool) → eqb i.volume x ≡ s
        → Recalls l d bs (retention_at q x) (taken_of x q.taken ++ (when s then i ∷ [] else [])) (when s && true then note (h x) else h x)
    go true e =
        subst (λ (x : ℕ). Recalls l d bs (retention_at q x) (taken_of x q.taken ++ (i ∷ [])) (note (h x))) (eqb-true i.volume x e) own
    go false e = rw (append-nil (taken_of x q.taken)) (others x)
