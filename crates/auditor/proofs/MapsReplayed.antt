-- What audit's first sentence gives a book in form: each volume's backups are sound and lead to its current map.
use Prim.Native.Nat.{ℕ, ◌≤◌, ◌<◌}
use mathlib.Core.Path.{◌≡◌, sym, ap, ◌∙◌}
use mathlib.Core.Bool.{Bool, true, false, ◌&&◌}
use mathlib.Core.List.{List, [], ◌∷◌}
use native.Mathlib.Omega.{arith}
use lib.Dec.{leb, ltb, eqb}
use lib.ListN.{length, get_or, set, drop, replicate, length-set, length-replicate, get_or-replicate}
use borrow.Author.Tests.{eqb-true, ltb-true, leb-true, le-leb}
use Rattle.words.proofs.Places.{all_weaker}
use Rattle.words.specs.Blocks.{unmapped}
use Rattle.words.specs.Choice.{when◌then◌else◌}
use Rattle.words.proofs.ChoiceLaws.{and_true}
use Rattle.words.proofs.Each.{each_at, all-each}
use Rattle.words.specs.Lists.{all, up_from}
use Rattle.words.proofs.Same.{same_equal}
use Rattle.words.proofs.SetLaws.{get_d_set}
use Rattle.book.specs.Book.{volumes, Sizes, Slot, Rec, Book, Sized}
use Rattle.book.specs.Form.{pbn_ok, rec_ok, slot_ok, later_ok, days_ok}
use Rattle.book.specs.FormFacts.{BookParts}
use Rattle.book.proofs.Conditions.{slot-facts}
use Rattle.model.specs.Journal.{Backup, journal_of, journal, slots_in}
use Rattle.model.specs.Audit.{applied, replayed, befores_in, befores, no_maps, same_map, maps_sound}
use Rattle.claims.proofs.kept.Sound.{Sound, SoundAll, Days}
use Rattle.claims.proofs.kept.JournalLaws.{length-applied}
use Rattle.claims.proofs.kept.Replays.{map_after, slots_in-replayed, slots_in-sound, slots_in-days}
use Rattle.claims.proofs.kept.Retirements.{slots_end}
use Rattle.claims.proofs.kept.KeptBefores.{Replayed}
use Rattle.replay.proofs.JournalRead.{backup_in, journal_in}

-- ---- the tests of befores as facts

befores-sound : (z : Sizes) (m : List ℕ) (rs : List Rec) → length m ≡ z.l → all (rec_ok z) rs ≡ true → befores_in m rs ≡ true → Sound m rs
unfolding Sound rec_ok
befores-sound z m [] l ok e = tt
befores-sound z m (r ∷ rs) l ok e =
    let w = and_true (rec_ok z r) (all (rec_ok z) rs) ok in
    let lbn = ltb r.lbn z.l in
    let k = (and_true lbn (pbn_ok z.n r.before) (and_true (lbn && pbn_ok z.n r.before) (pbn_ok z.n r.after) w.0).0).0 in
    let f = and_true (eqb (get_or m r.lbn unmapped) r.before) (befores_in (set m r.lbn r.after) rs) e in (
      omega (arith, ltb-true r.lbn z.l k),
      sym (eqb-true (get_or m r.lbn unmapped) r.before f.0),
      befores-sound z (set m r.lbn r.after) rs (length-set m r.lbn r.after ∙ l) w.1 f.1,
    )

-- every row has l cells
abbrev Rows : ℕ → List (List ℕ) → Type 0
Rows l ms = (v : ℕ) → v < volumes → length (get_or ms v []) ≡ l

befores-all : (z : Sizes) (ms : List (List ℕ)) (bs : List Backup) → length ms ≡ volumes → Rows z.l ms
    → all (backup_in z) bs ≡ true → befores ms bs ≡ true → SoundAll ms bs
unfolding SoundAll backup_in
befores-all z ms [] n rows ok e = tt
befores-all z ms (b ∷ bs) n rows ok e =
    let w = and_true (backup_in z b) (all (backup_in z) bs) ok in
    let k = and_true (ltb b.volume volumes) (all (rec_ok z) b.records) w.0 in
    let hv = ltb-true b.volume volumes k.0 in
    let m = get_or ms b.volume [] in
    let m' = applied m b.records in
    let f = and_true (befores_in m b.records) (befores (set ms b.volume m') bs) e in
    let hm : b.volume < length ms = omega arith in (
      hm,
      befores-sound z m b.records (rows b.volume hv) k.1 f.0,
      befores-all z (set ms b.volume m') bs (length-set ms b.volume m' ∙ n)
          (λ v h. after v h hm (length-applied m b.records ∙ rows b.volume hv)) w.1 f.1,
    )
  where
    after : (v : ℕ) → v < volumes → b.volume < length ms → length (applied (get_or ms b.volume []) b.records) ≡ z.l
        → length (get_or (set ms b.volume (applied (get_or ms b.volume []) b.records)) v []) ≡ z.l
    after v h hm new = rw (get_d_set ms b.volume v (applied (get_or ms b.volume []) b.records) [] hm) (go (eqb v b.volume))
      where
        go : (t : Bool) → length (when t then applied (get_or ms b.volume []) b.records else get_or ms v []) ≡ z.l
        go true = new
        go false = rows v h

-- ---- days never fall, as form says

days-slots : (gone : List Slot) (rs : List Rec) (d e : ℕ) (ts : List Slot) → d ≤ e → all (λ t. leb d t.day) ts ≡ true → days_ok ts ≡ true
    → all (λ t. leb t.day e) ts ≡ true
    → Days d (journal_of gone ts rs) e
unfolding Days later_ok
days-slots gone rs d e [] h low ok high = h
days-slots gone rs d e (t ∷ ts) h low ok high =
    let a = and_true (leb d t.day) (all (λ t. leb d t.day) ts) low in
    let b = and_true (all (later_ok t) ts) (days_ok ts) ok in
    let c = and_true (leb t.day e) (all (λ t. leb t.day e) ts) high in (
      leb-true d t.day a.0,
      days-slots (t ∷ gone) (drop t.number rs) t.day e ts (leb-true t.day e c.0)
          (all_weaker (later_ok t) (λ u. leb t.day u.day) ts (λ u f. (and_true (leb t.day u.day) _ f).0) b.0)
          b.1 c.1,
    )

-- ---- a book in form whose maps are sound

module _ (x : Book) (s : Sized x) (p : BookParts x) where
  days-journal : Days 0 (journal x) x.day
  unfolding slot_ok journal
  days-journal =
      days-slots [] x.records 0 x.day x.slots (omega arith)
      (all_weaker (slot_ok x) (λ t. leb 0 t.day) x.slots (λ t f. le-leb 0 t.day (omega arith)) p.slots)
      p.days
      (all_weaker (slot_ok x) (λ t. leb t.day x.day) x.slots
      (λ t f. (slot-facts x t f).1) p.slots)

  row-none : (v : ℕ) → v < volumes → get_or (no_maps x) v [] ≡ replicate x.sizes.l unmapped
  unfolding no_maps
  row-none v h = get_or-replicate volumes v (replicate x.sizes.l unmapped) [] h

  count_none : length (no_maps x) ≡ volumes
  unfolding no_maps
  count_none = length-replicate volumes (replicate x.sizes.l unmapped)

  pub maps-replayed : maps_sound x ≡ true → Replayed x
  unfolding maps_sound backup_in
  maps-replayed e =
      let w = and_true (befores (no_maps x) (journal x)) (all (same_map x.maps (replayed (no_maps x) (journal x))) (up_from 0 volumes)) e in
      let ok = journal_in x p s in
      let sound =
      befores-all x.sizes (no_maps x) (journal x) count_none
      (λ v h. rw (row-none v h) (length-replicate x.sizes.l unmapped)) ok w.0 in
      let same =
      each_at (same_map x.maps (replayed (no_maps x) (journal x))) 0 volumes
      (sym (all-each (same_map x.maps (replayed (no_maps x) (journal x))) volumes) ∙ w.1) in
      record {
        sounds = λ v h. rw (row-none v h) at (slots_in-sound v (no_maps x) (journal x) sound);
        maps = λ v h.
            ap (λ (m : List ℕ). map_after m (slots_in v (journal x))) (sym (row-none v h))
            ∙ sym (slots_in-replayed v (no_maps x) (journal x) (omega (arith, count_none)))
            ∙ sym (same_equal (get_or x.maps v []) (get_or (replayed (no_maps x) (journal x)) v []) (same v (omega arith) h));
        days = λ v. slots_in-days v 0 x.day (journal x) days-journal;
        volumes =
            all_weaker (backup_in x.sizes) (λ b. ltb b.volume volumes) (journal x)
            (λ b f. (and_true (ltb b.volume volumes) (all (rec_ok x.sizes) b.records) f).0) ok;
        ends = λ v. slots_end x v p.days;
      }
